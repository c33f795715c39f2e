-- `iu_ir`, `coup_of`, `next_coupling` and `r36_of` of the source, and the index of a current range's calibration words.
use Rattle.std.specs.Prelude.{if◌then◌else◌, ℕ, zero, suc, ◌+◌, ◌-◌, ◌*◌, ◌/◌, ◌%◌, eqb, ℤ, pos, negsuc}
use Rattle.tables.specs.declared.ranges.IuIr.{IuIr}
use Rattle.tables.specs.Bounds.{at_most}
use Rattle.tables.specs.Constants.{coup_acdc, coup_dc, coup_ac}

-- `iu_ir`: the unit of current range k (0 is A, 1 mA, 2 uA) and the index of its amplifier's gain (0 is times ten, 1 times one); a k above 5 counts as 5
unfoldable pub iu_ir : ℕ → IuIr
iu_ir k = record { iu = 2 - at_most 5 k / 2; ir = at_most 5 k % 2 }

-- iu * 2 + ir: the place of range k among six calibration words
unfoldable pub cal_index : ℕ → ℕ
cal_index k = (iu_ir k).iu * 2 + (iu_ir k).ir

-- `coup_of`: the low two bits; 1 is DC, 3 is AC, 0 and 2 are AC+DC
unfoldable pub coup_of : ℕ → ℕ
coup_of c = if eqb (c % 4) 1 then coup_dc else if eqb (c % 4) 3 then coup_ac else coup_acdc

-- `next_coupling`: DC, AC, AC+DC in turn, and DC after any other number
unfoldable pub next_coupling : ℕ → ℕ
next_coupling c = if eqb c coup_dc then coup_ac else if eqb c coup_ac then coup_acdc else coup_dc

-- `r36_of`: the size of the steps, at most 127, with bit 7 (128) set where they are above zero. `negsuc n` is -(n + 1)
unfoldable pub r36_of : ℤ → ℕ
r36_of (pos zero) = 0
r36_of (pos (suc n)) = 128 + at_most 127 (suc n)
r36_of (negsuc n) = at_most 127 (suc n)
