-- The meter in which every value has a number of its own: 1, 2, 3 and so on in the order of declaration, 128 as a signed byte being -128, and the bools yes and no in turn; and the test of each value.
use Rattle.std.specs.Prelude.{Bool, true, false, not, ◌&&◌, List, [], ◌∷◌, ℕ, zero, suc, ◌+◌, eqb, ℤ, pos, negsuc, get_or}
use Rattle.std.specs.Float.{binary32, nan}
use Rattle.std.specs.Float.Ieee.{of_bits, eq}
use Rattle.std.specs.Int.{Width, w8, w16, w32, w64}
use Rattle.std.proofs.Common.{of_z}
use Rattle.figures.specs.declared.tally.Tally.{Tally}
use Rattle.tables.specs.declared.calibration.Calibration.{Calibration}
use Rattle.tables.specs.declared.description.Description.{Description}
use Rattle.state.specs.declared.Stamp.{Stamp}
use Rattle.state.specs.declared.Mode.{Mode}
use Rattle.state.specs.declared.Ranges.{Ranges}
use Rattle.state.specs.declared.Cycle.{Cycle}
use Rattle.state.specs.declared.Parts.{Parts}
use Rattle.state.specs.declared.Powers.{Powers}
use Rattle.state.specs.declared.Clock.{Clock}
use Rattle.state.specs.declared.Settings.{Settings}
use Rattle.state.specs.declared.PhaseCal.{PhaseCal}
use Rattle.state.specs.declared.Corrections.{Corrections}
use Rattle.state.specs.declared.Job.{Job}
use Rattle.state.specs.declared.Comparator.{Comparator}
use Rattle.state.specs.declared.Ring.{Ring}
use Rattle.state.specs.declared.Pw.{Pw}

-- the first n entries of a list are the numbers from `first` on
abbrev pub counts_in : ℕ → List ℕ → ℕ → Bool
counts_in first xs zero = true
counts_in first xs (suc n) = counts_in first xs n && eqb (get_or xs n 0) (first + n)

-- the same of signed numbers of w bits
abbrev pub signed_in : Width → ℕ → List ℤ → ℕ → Bool
signed_in w first xs zero = true
signed_in w first xs (suc n) = signed_in w first xs n && eqb (of_z w (get_or xs n (pos 0))) (first + n)

-- b is yes where n is odd, and no where it is even
abbrev pub turn : ℕ → Bool → Bool
turn zero b = not b
turn (suc zero) b = b
turn (suc (suc n)) b = turn n b

-- the first n entries of a list are no, yes, no, yes and so on
abbrev pub turns_in : List Bool → ℕ → Bool
turns_in xs zero = true
turns_in xs (suc n) = turns_in xs n && turn n (get_or xs n false)

abbrev pub numbered_description : Description
numbered_description = record { mv_div = of_bits binary32 0x3f80_0000 ∷ of_bits binary32 0x4000_0000 ∷ []; shunt = of_bits binary32 0x4040_0000 ∷ of_bits binary32 0x4080_0000 ∷ of_bits binary32 0x40a0_0000 ∷ []; over = of_bits binary32 0x40c0_0000; a_auto = true }

abbrev pub numbered_calibration : Calibration
numbered_calibration = record { words = 8 ∷ 9 ∷ 10 ∷ 11 ∷ 12 ∷ 13 ∷ 14 ∷ 15 ∷ 16 ∷ 17 ∷ 18 ∷ 19 ∷ 20 ∷ 21 ∷ 22 ∷ 23 ∷ 24 ∷ 25 ∷ 26 ∷ 27 ∷ 28 ∷ 29 ∷ 30 ∷ 31 ∷ 32 ∷ 33 ∷ 34 ∷ 35 ∷ 36 ∷ 37 ∷ 38 ∷ 39 ∷ 40 ∷ 41 ∷ 42 ∷ 43 ∷ 44 ∷ 45 ∷ 46 ∷ 47 ∷ 48 ∷ 49 ∷ 50 ∷ 51 ∷ 52 ∷ 53 ∷ 54 ∷ 55 ∷ 56 ∷ 57 ∷ 58 ∷ 59 ∷ 60 ∷ 61 ∷ 62 ∷ 63 ∷ 64 ∷ 65 ∷ 66 ∷ 67 ∷ 68 ∷ 69 ∷ 70 ∷ 71 ∷ 72 ∷ 73 ∷ 74 ∷ 75 ∷ 76 ∷ 77 ∷ 78 ∷ 79 ∷ 80 ∷ []; valid = false }

abbrev pub numbered_mode : Mode
numbered_mode = record { on = true; alt = false; coup = 84; dc = true; cal_req = false }

abbrev pub numbered_ranges : Ranges
numbered_ranges = record { vr = 87; ik = 88; v_auto = true; i_auto = false }

abbrev pub numbered_cycle : Cycle
numbered_cycle = record { phase = 92; skip = 93; skip_y = 94; taken = 95; stat = 96; seen = 97 }

abbrev pub numbered_parts : Parts
numbered_parts = record { p_ac = of_bits binary32 0x42c4_0000; v_ac = of_bits binary32 0x42c6_0000; v_dc = of_bits binary32 0x42c8_0000; i_ac = of_bits binary32 0x42ca_0000; i_dc = of_bits binary32 0x42cc_0000; vac_dc = of_bits binary32 0x42ce_0000 }

abbrev pub numbered_powers : Powers
numbered_powers = record { p_tot = of_bits binary32 0x42d0_0000; s_last = of_bits binary32 0x42d2_0000 }

abbrev pub numbered_tally : Tally
numbered_tally = record { e = record { mj = pos 106; frac = of_bits binary32 0x42d6_0000 }; va = record { mj = pos 108; frac = of_bits binary32 0x42da_0000 }; t_int = 110 }

abbrev pub numbered_clock : Clock
numbered_clock = record { run = true; t_last = record { set = false; at = 113 }; t_poll = 114 }

abbrev pub numbered_over_t0 : Stamp
numbered_over_t0 = record { set = true; at = 116 }

abbrev pub numbered_settings : Settings
numbered_settings = record { comp = false; r_path = of_bits binary32 0x42ec_0000 ∷ of_bits binary32 0x42ee_0000 ∷ of_bits binary32 0x42f0_0000 ∷ []; i_cont = of_bits binary32 0x42f2_0000; t_lim = 122; main = 123 }

abbrev pub numbered_phase_cal : PhaseCal
numbered_phase_cal = record { sph = pos 124; cal = 125; cal_n = 126; cal_acc = of_bits binary32 0x42fe_0000; cal_s0 = negsuc 127; cal_pa = of_bits binary32 0x4301_0000; cal_res = 130 }

abbrev pub numbered_corrections : Corrections
numbered_corrections = record { zx = pos 131 ∷ pos 132 ∷ pos 133 ∷ pos 134 ∷ pos 135 ∷ pos 136 ∷ []; zd = pos 137 ∷ pos 138 ∷ pos 139 ∷ pos 140 ∷ pos 141 ∷ pos 142 ∷ []; zy = pos 143; zero_ok = true; vgain = of_bits binary32 0x4311_0000 ∷ of_bits binary32 0x4312_0000 ∷ of_bits binary32 0x4313_0000 ∷ of_bits binary32 0x4314_0000 ∷ [] }

abbrev pub numbered_job : Job
numbered_job = record { job = 149; job_step = 150; job_n = 151; job_a = of_bits binary32 0x4318_0000; job_b = of_bits binary32 0x4319_0000; job_dc = false; job_raw = of_bits binary32 0x431b_0000 ∷ of_bits binary32 0x431c_0000 ∷ []; job_ref = of_bits binary32 0x431d_0000 ∷ of_bits binary32 0x431e_0000 ∷ []; job_zx = pos 159 ∷ pos 160 ∷ pos 161 ∷ pos 162 ∷ pos 163 ∷ pos 164 ∷ []; job_zd = pos 165 ∷ pos 166 ∷ pos 167 ∷ pos 168 ∷ pos 169 ∷ pos 170 ∷ []; job_save = record { vr = 171; ik = 172; v_auto = true; i_auto = false }; job_res = 175; job_vr = 176; job_last = 177; used = 178 }

abbrev pub numbered_comparator : Comparator
numbered_comparator = record { r20 = 179; r21 = 180; f_ok = true; cmp_vr = 182 }

abbrev pub numbered_ring : Ring
numbered_ring = record { stat = 183 ∷ 184 ∷ 185 ∷ 186 ∷ 187 ∷ 188 ∷ 189 ∷ 190 ∷ 191 ∷ 192 ∷ 193 ∷ 194 ∷ 195 ∷ 196 ∷ 197 ∷ 198 ∷ []; disc = false ∷ true ∷ false ∷ true ∷ false ∷ true ∷ false ∷ true ∷ false ∷ true ∷ false ∷ true ∷ false ∷ true ∷ false ∷ true ∷ []; rms = pos 215 ∷ pos 216 ∷ pos 217 ∷ pos 218 ∷ pos 219 ∷ pos 220 ∷ pos 221 ∷ pos 222 ∷ pos 223 ∷ pos 224 ∷ pos 225 ∷ pos 226 ∷ pos 227 ∷ pos 228 ∷ pos 229 ∷ pos 230 ∷ []; lpf = pos 231 ∷ pos 232 ∷ pos 233 ∷ pos 234 ∷ pos 235 ∷ pos 236 ∷ pos 237 ∷ pos 238 ∷ pos 239 ∷ pos 240 ∷ pos 241 ∷ pos 242 ∷ pos 243 ∷ pos 244 ∷ pos 245 ∷ pos 246 ∷ []; dt = 247 ∷ 248 ∷ 249 ∷ 250 ∷ 251 ∷ 252 ∷ 253 ∷ 254 ∷ 255 ∷ 256 ∷ 257 ∷ 258 ∷ 259 ∷ 260 ∷ 261 ∷ 262 ∷ []; ring_k = 263; t_res = 264 }

unfoldable pub numbered_meter : Pw
numbered_meter = record { description = numbered_description; calibration = numbered_calibration; mode = numbered_mode; ranges = numbered_ranges; barred = 91; cycle = numbered_cycle; parts = numbered_parts; powers = numbered_powers; tally = numbered_tally; clock = numbered_clock; over_t0 = numbered_over_t0; settings = numbered_settings; phase_cal = numbered_phase_cal; corrections = numbered_corrections; job = numbered_job; comparator = numbered_comparator; ring = numbered_ring }

abbrev pub is_description : Description → Bool
is_description x = eq (get_or x.mv_div 0 nan) (of_bits binary32 0x3f80_0000) && eq (get_or x.mv_div 1 nan) (of_bits binary32 0x4000_0000) && eq (get_or x.shunt 0 nan) (of_bits binary32 0x4040_0000) && eq (get_or x.shunt 1 nan) (of_bits binary32 0x4080_0000) && eq (get_or x.shunt 2 nan) (of_bits binary32 0x40a0_0000) && eq x.over (of_bits binary32 0x40c0_0000) && x.a_auto

abbrev pub is_calibration : Calibration → Bool
is_calibration x = counts_in 8 x.words 73 && not x.valid

abbrev pub is_mode : Mode → Bool
is_mode x = x.on && not x.alt && eqb x.coup 84 && x.dc && not x.cal_req

abbrev pub is_ranges : Ranges → Bool
is_ranges x = eqb x.vr 87 && eqb x.ik 88 && x.v_auto && not x.i_auto

abbrev pub is_cycle : Cycle → Bool
is_cycle x = eqb x.phase 92 && eqb x.skip 93 && eqb x.skip_y 94 && eqb x.taken 95 && eqb x.stat 96 && eqb x.seen 97

abbrev pub is_parts : Parts → Bool
is_parts x = eq x.p_ac (of_bits binary32 0x42c4_0000) && eq x.v_ac (of_bits binary32 0x42c6_0000) && eq x.v_dc (of_bits binary32 0x42c8_0000) && eq x.i_ac (of_bits binary32 0x42ca_0000) && eq x.i_dc (of_bits binary32 0x42cc_0000) && eq x.vac_dc (of_bits binary32 0x42ce_0000)

abbrev pub is_powers : Powers → Bool
is_powers x = eq x.p_tot (of_bits binary32 0x42d0_0000) && eq x.s_last (of_bits binary32 0x42d2_0000)

abbrev pub is_tally : Tally → Bool
is_tally x = eqb (of_z w64 x.e.mj) 106 && eq x.e.frac (of_bits binary32 0x42d6_0000) && eqb (of_z w64 x.va.mj) 108 && eq x.va.frac (of_bits binary32 0x42da_0000) && eqb x.t_int 110

abbrev pub is_clock : Clock → Bool
is_clock x = x.run && not x.t_last.set && eqb x.t_last.at 113 && eqb x.t_poll 114

abbrev pub is_over_t0 : Stamp → Bool
is_over_t0 x = x.set && eqb x.at 116

abbrev pub is_settings : Settings → Bool
is_settings x = not x.comp && eq (get_or x.r_path 0 nan) (of_bits binary32 0x42ec_0000) && eq (get_or x.r_path 1 nan) (of_bits binary32 0x42ee_0000) && eq (get_or x.r_path 2 nan) (of_bits binary32 0x42f0_0000) && eq x.i_cont (of_bits binary32 0x42f2_0000) && eqb x.t_lim 122 && eqb x.main 123

abbrev pub is_phase_cal : PhaseCal → Bool
is_phase_cal x = eqb (of_z w8 x.sph) 124 && eqb x.cal 125 && eqb x.cal_n 126 && eq x.cal_acc (of_bits binary32 0x42fe_0000) && eqb (of_z w8 x.cal_s0) 128 && eq x.cal_pa (of_bits binary32 0x4301_0000) && eqb x.cal_res 130

abbrev pub is_corrections : Corrections → Bool
is_corrections x = signed_in w16 131 x.zx 6 && signed_in w16 137 x.zd 6 && eqb (of_z w16 x.zy) 143 && x.zero_ok && eq (get_or x.vgain 0 nan) (of_bits binary32 0x4311_0000) && eq (get_or x.vgain 1 nan) (of_bits binary32 0x4312_0000) && eq (get_or x.vgain 2 nan) (of_bits binary32 0x4313_0000) && eq (get_or x.vgain 3 nan) (of_bits binary32 0x4314_0000)

abbrev pub is_job_steps : Job → Bool
is_job_steps x = eqb x.job 149 && eqb x.job_step 150 && eqb x.job_n 151 && eq x.job_a (of_bits binary32 0x4318_0000) && eq x.job_b (of_bits binary32 0x4319_0000) && not x.job_dc && eq (get_or x.job_raw 0 nan) (of_bits binary32 0x431b_0000) && eq (get_or x.job_raw 1 nan) (of_bits binary32 0x431c_0000) && eq (get_or x.job_ref 0 nan) (of_bits binary32 0x431d_0000) && eq (get_or x.job_ref 1 nan) (of_bits binary32 0x431e_0000)

abbrev pub is_job_save : Ranges → Bool
is_job_save x = eqb x.vr 171 && eqb x.ik 172 && x.v_auto && not x.i_auto

abbrev pub is_job_rest : Job → Bool
is_job_rest x = signed_in w16 159 x.job_zx 6 && signed_in w16 165 x.job_zd 6 && is_job_save x.job_save && eqb x.job_res 175 && eqb x.job_vr 176 && eqb x.job_last 177 && eqb x.used 178

abbrev pub is_comparator : Comparator → Bool
is_comparator x = eqb x.r20 179 && eqb x.r21 180 && x.f_ok && eqb x.cmp_vr 182

abbrev pub is_ring_marks : Ring → Bool
is_ring_marks x = counts_in 183 x.stat 16 && turns_in x.disc 16

abbrev pub is_ring_codes : Ring → Bool
is_ring_codes x = signed_in w64 215 x.rms 16 && signed_in w32 231 x.lpf 16

abbrev pub is_ring_times : Ring → Bool
is_ring_times x = counts_in 247 x.dt 16 && eqb x.ring_k 263 && eqb x.t_res 264

-- values 1 to 114, and 115 to 264
unfoldable pub is_front : Pw → Bool
is_front pw = is_description pw.description && is_calibration pw.calibration && is_mode pw.mode && is_ranges pw.ranges && eqb pw.barred 91 && is_cycle pw.cycle && is_parts pw.parts && is_powers pw.powers && is_tally pw.tally && is_clock pw.clock

unfoldable pub is_back : Pw → Bool
is_back pw = is_over_t0 pw.over_t0 && is_settings pw.settings && is_phase_cal pw.phase_cal && is_corrections pw.corrections && is_job_steps pw.job && is_job_rest pw.job && is_comparator pw.comparator && is_ring_marks pw.ring && is_ring_codes pw.ring && is_ring_times pw.ring

unfoldable pub is_numbered : Pw → Bool
is_numbered pw = is_front pw && is_back pw
