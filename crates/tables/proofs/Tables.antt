-- Each table of floats, given by its bits as src/ gives it, is its decimals. By computation, once over all tables.
use mathlib.Core.Path.{◌≡◌, refl}
use mathlib.Core.List.{List, [], ◌∷◌}
use Prim.Native.Nat.{ℕ}
use lib.Ieee.{Float, binary32, of_bits, round}
use Rattle.tables.specs.Constants.{v_lim, i_lim, shunt_ohm, kv}
use Rattle.tables.specs.declared.window.Side.TheVariants.{Upper, Lower}
use Rattle.tables.specs.Window.{codes, levels}
use Rattle.tables.specs.Decided.{k_acv, dcv_negk, acv_win, aca_win}

abbrev pub floats : List ℕ → List Float
floats [] = []
floats (w ∷ ws) = of_bits binary32 w ∷ floats ws

pub v_lim_is : floats (0x40c00000 ∷ 0x42700000 ∷ 0x44160000 ∷ 0x447a0000 ∷ []) ≡ v_lim
unfolding v_lim of_bits round
v_lim_is = refl

pub i_lim_is : floats (0x3a1d4952 ∷ 0x3bc49ba6 ∷ 0x3d75c28f ∷ 0x3f19999a ∷ 0x40c00000 ∷ 0x41200000 ∷ []) ≡ i_lim
unfolding i_lim of_bits round
i_lim_is = refl

pub shunt_ohm_is : floats (0x3c23d70a ∷ 0x3f000000 ∷ 0x423e0000 ∷ []) ≡ shunt_ohm
unfolding shunt_ohm of_bits round
shunt_ohm_is = refl

pub kv_is : floats (0x41200000 ∷ 0x42c80000 ∷ 0x447a0000 ∷ 0x461c4000 ∷ []) ≡ kv
unfolding kv of_bits round
kv_is = refl

pub k_acv_is : floats (0x41200000 ∷ 0x42c80000 ∷ 0x447a0000 ∷ 0x461c4000 ∷ []) ≡ k_acv
unfolding k_acv of_bits round
k_acv_is = refl

pub dcv_negk_is : floats (0x3f800000 ∷ 0x3f800000 ∷ 0x3f800000 ∷ 0x3f800000 ∷ []) ≡ dcv_negk
unfolding dcv_negk of_bits round
dcv_negk_is = refl

pub acv_win_is : floats (0x3e99999a ∷ 0x40400000 ∷ 0x41f00000 ∷ 0x42480000 ∷ []) ≡ acv_win
unfolding acv_win of_bits round
acv_win_is = refl

pub aca_win_is : floats (0x3e99999a ∷ 0x3f000000 ∷ 0x40400000 ∷ 0x41f00000 ∷ 0x41f00000 ∷ 0x43960000 ∷ []) ≡ aca_win
unfolding aca_win of_bits round
aca_win_is = refl

-- ---- the comparator's two tables

pub upper_codes : 0xf ∷ 0xe ∷ 0xd ∷ 0xc ∷ 0xb ∷ 0xa ∷ 0x9 ∷ 0x8 ∷ 0x1 ∷ 0x0 ∷ 0x5 ∷ 0x6 ∷ [] ≡ codes Upper
unfolding codes
upper_codes = refl

pub lower_codes : 0x8 ∷ 0x9 ∷ 0xa ∷ 0xb ∷ 0xc ∷ 0xd ∷ 0xe ∷ 0xf ∷ 0x1 ∷ 0x0 ∷ 0x5 ∷ 0x6 ∷ [] ≡ codes Lower
unfolding codes
lower_codes = refl

pub upper_levels : floats (0xbcaa64c3 ∷ 0x00000000 ∷ 0x3caa64c3 ∷ 0x3d2acd9f ∷ 0x3d800000 ∷ 0x3dd566cf ∷ 0x3e554c98 ∷ 0x3ed559b4 ∷ 0x3f4ccccd ∷ 0x3fcccccd ∷ 0xbe4ccccd ∷ 0xbecccccd ∷ []) ≡ levels Upper
unfolding levels of_bits round
upper_levels = refl

pub lower_levels : floats (0xbed559b4 ∷ 0xbe554c98 ∷ 0xbdd566cf ∷ 0xbd800000 ∷ 0xbd2acd9f ∷ 0xbcaa64c3 ∷ 0x00000000 ∷ 0x3caa64c3 ∷ 0xbf4ccccd ∷ 0xbfcccccd ∷ 0x3e4ccccd ∷ 0x3ecccccd ∷ []) ≡ levels Lower
unfolding levels of_bits round
lower_levels = refl
