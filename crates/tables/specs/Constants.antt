-- The source's constants, each under its name in lower case. A float that is one number is given by its bits, with the source's decimal beside it: `float_constants` lists the
-- decimals, and proofs/Nearest.antt shows that each of these floats is the binary32 number nearest its decimal.
use Rattle.std.specs.Prelude.{List, [], ◌∷◌, ℕ, ◌%◌, get_or, Float}
use Rattle.std.specs.Float.{binary32}
use Rattle.std.specs.Float.Ieee.{of_bits}
use Rattle.numbers.specs.Binary32.{◌/f◌}
use Rattle.numbers.specs.Decimal.{decimal}
use Rattle.tables.specs.Decided.{decided_floats}

-- ---- tables of floats, read by `entry_at`

-- V_LIM: volts, by V range
unfoldable pub v_lim : List Float
v_lim = decimal 6 0 ∷ decimal 60 0 ∷ decimal 600 0 ∷ decimal 1000 0 ∷ []

-- I_LIM: amperes, by current range
unfoldable pub i_lim : List Float
i_lim = decimal 600 6 ∷ decimal 6 3 ∷ decimal 6 2 ∷ decimal 6 1 ∷ decimal 6 0 ∷ decimal 10 0 ∷ []

-- SHUNT_OHM: ohms, by current unit
unfoldable pub shunt_ohm : List Float
shunt_ohm = decimal 1 2 ∷ decimal 5 1 ∷ decimal 475 1 ∷ []

-- KV: by V range
unfoldable pub kv : List Float
kv = decimal 10 0 ∷ decimal 100 0 ∷ decimal 1000 0 ∷ decimal 10000 0 ∷ []

-- ---- numbers

abbrev pub code : Float
code = of_bits binary32 0x36a0_0000  -- 1.25 / 262_144.0

abbrev pub r34_xy : ℕ
r34_xy = 0x88

abbrev pub r34_xx : ℕ
r34_xx = 0x80

abbrev pub r34_yy : ℕ
r34_yy = 0x8c

-- CYCLE, R34 by phase. It goes round: the source takes the low two bits of the phase
unfoldable pub cycle : List ℕ
cycle = r34_xy ∷ r34_yy ∷ r34_xy ∷ r34_xx ∷ []

unfoldable pub cycle_at : ℕ → ℕ
cycle_at phase = get_or cycle (phase % 4) 0

abbrev pub r20_sense : ℕ
r20_sense = 0x10

abbrev pub r20_pb4 : ℕ
r20_pb4 = 0xf0

abbrev pub r21_default : ℕ
r21_default = 0xdd

abbrev pub settle_ms : ℕ
settle_ms = 550

abbrev pub alt_v_settle_ms : ℕ
alt_v_settle_ms = 600

abbrev pub vcal_ac_settle_ms : ℕ
vcal_ac_settle_ms = 2000

-- ours: the source has the number without a name
abbrev pub vcal_dc_settle_ms : ℕ
vcal_dc_settle_ms = 450

abbrev pub disc_default : ℕ
disc_default = 2

abbrev pub alt_n : ℕ
alt_n = 2

abbrev pub alt_v_skip : ℕ
alt_v_skip = 4

abbrev pub dc_skip : ℕ
dc_skip = 1

abbrev pub job_skip : ℕ
job_skip = 1

abbrev pub job_n : ℕ
job_n = 3

abbrev pub ring_n : ℕ
ring_n = 16

abbrev pub i_cont_default : Float
i_cont_default = of_bits binary32 0x40c0_0000  -- 6.0

abbrev pub t_lim_default : ℕ
t_lim_default = 30

abbrev pub i_floor : Float
i_floor = of_bits binary32 0x3851_b717  -- 50e-6

abbrev pub floor_i : Float
floor_i = of_bits binary32 0x3ba3_d70a  -- 0.005

abbrev pub noise_v : Float
noise_v = of_bits binary32 0x3a83_126f  -- 0.001

abbrev pub noise_i : Float
noise_i = of_bits binary32 0x3b23_d70a  -- 0.0025

abbrev pub coup_acdc : ℕ
coup_acdc = 0

abbrev pub coup_dc : ℕ
coup_dc = 1

abbrev pub coup_ac : ℕ
coup_ac = 3

abbrev pub main_p : ℕ
main_p = 0

abbrev pub main_wh : ℕ
main_wh = 1

abbrev pub main_vah : ℕ
main_vah = 2

abbrev pub hint_no_ac : ℕ
hint_no_ac = 1

abbrev pub hint_ac : ℕ
hint_ac = 2

abbrev pub job_zero : ℕ
job_zero = 1

abbrev pub job_vcal : ℕ
job_vcal = 2

abbrev pub jr_none : ℕ
jr_none = 0

abbrev pub jr_run : ℕ
jr_run = 1

abbrev pub jr_ok : ℕ
jr_ok = 2

abbrev pub jr_signal : ℕ
jr_signal = 3

abbrev pub jr_small : ℕ
jr_small = 4

abbrev pub jr_big : ℕ
jr_big = 5

abbrev pub jr_unstable : ℕ
jr_unstable = 6

abbrev pub jr_range : ℕ
jr_range = 7

abbrev pub jr_abort : ℕ
jr_abort = 8

abbrev pub jr_method : ℕ
jr_method = 9

abbrev pub zero_max_rms : Float
zero_max_rms = of_bits binary32 0x43c8_0000  -- 400.0

abbrev pub zero_max_lpf : ℕ
zero_max_lpf = 4000

abbrev pub zero_max_ad1 : ℕ
zero_max_ad1 = 20000

abbrev pub vcal_min : Float
vcal_min = of_bits binary32 0x3dcc_cccd  -- 0.1

abbrev pub vcal_max_ac : Float
vcal_max_ac = of_bits binary32 0x3f33_3333  -- 0.7

abbrev pub vcal_max_dc : Float
vcal_max_dc = of_bits binary32 0x3f80_0000  -- 1.0

abbrev pub vcal_peak_max : Float
vcal_peak_max = of_bits binary32 0x3f80_0000  -- 1.0

abbrev pub vcal_spread : Float
vcal_spread = of_bits binary32 0x3b44_9ba6  -- 0.003

abbrev pub cal_none : ℕ
cal_none = 0

abbrev pub cal_run : ℕ
cal_run = 1

abbrev pub cal_ok : ℕ
cal_ok = 2

abbrev pub cal_flat : ℕ
cal_flat = 3

abbrev pub cal_not_reactive : ℕ
cal_not_reactive = 4

abbrev pub cal_range : ℕ
cal_range = 5

abbrev pub cal_pf_max : Float
cal_pf_max = of_bits binary32 0x3ea3_d70a  -- 0.32

-- ---- all of the numbers in the order above, the two decided ones last: what the code's constants are promised to be
unfoldable pub float_constants : List Float
float_constants =
    (decimal 125 2 /f decimal 262144 0) ∷ decimal 6 0 ∷ decimal 50 6 ∷ decimal 5 3 ∷ decimal 1 3 ∷ decimal 25 4 ∷ decimal 400 0 ∷ decimal 1 1 ∷ decimal 7 1 ∷ decimal 1 0
    ∷ decimal 1 0 ∷ decimal 3 3 ∷ decimal 32 2 ∷ decided_floats

unfoldable pub chip_constants : List ℕ
chip_constants =
    r34_xy ∷ r34_xx ∷ r34_yy ∷ r20_sense ∷ r20_pb4 ∷ r21_default ∷ settle_ms ∷ alt_v_settle_ms ∷ vcal_ac_settle_ms ∷ vcal_dc_settle_ms ∷ disc_default
    ∷ alt_n ∷ alt_v_skip ∷ dc_skip ∷ job_skip ∷ job_n ∷ ring_n ∷ t_lim_default ∷ []

unfoldable pub state_constants : List ℕ
state_constants =
    coup_acdc ∷ coup_dc ∷ coup_ac ∷ main_p ∷ main_wh ∷ main_vah ∷ hint_no_ac ∷ hint_ac ∷ job_zero ∷ job_vcal ∷ jr_none ∷ jr_run ∷ jr_ok ∷ jr_signal
    ∷ jr_small ∷ jr_big ∷ jr_unstable ∷ jr_range ∷ jr_abort ∷ jr_method ∷ zero_max_lpf ∷ zero_max_ad1 ∷ cal_none ∷ cal_run ∷ cal_ok ∷ cal_flat
    ∷ cal_not_reactive ∷ cal_range ∷ []
