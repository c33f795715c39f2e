-- Which row the host writes at a mark: the choice in `pw_write_config` of the source, as a kind. The numbers are ours (docs/DECISIONS.md): document 01 has none.
use Rattle.std.specs.Prelude.{Bool, ◌&&◌, ◌||◌, if◌then◌else◌, ℕ, ◌%◌, eqb, ltb, leb}
use Rattle.tables.specs.declared.row.RowKind.{RowKind}
use Rattle.tables.specs.declared.row.RowKind.TheVariants.{Power, Dc, AltV, AltI, DcReference, AcReference}
use Rattle.tables.specs.Constants.{job_zero, job_vcal}

-- `dcm`: DC coupling while no job runs, or steps 6 to 11 of a zero job
unfoldable pub is_dc : Bool → ℕ → ℕ → Bool
is_dc dc job step = (dc && eqb job 0) || (eqb job job_zero && leb 6 step && ltb step 12)

-- `vref`: an odd step of a gain job
unfoldable pub is_reference : ℕ → ℕ → Bool
is_reference job step = eqb job job_vcal && eqb (step % 2) 1

-- the reference of the gain job, of the kind that `job_dc` tells; else the DC row; else in the alternating method V in even phases and I in odd ones; else the power row
unfoldable pub row_kind : Bool → Bool → ℕ → ℕ → Bool → ℕ → RowKind
row_kind alt dc job step jobDc phase =
    if is_reference job step then (if jobDc then DcReference else AcReference)
    else if is_dc dc job step then Dc
    else if alt then (if eqb (phase % 2) 0 then AltV else AltI)
    else Power

abbrev pub row_number : RowKind → ℕ
row_number Power = 0
row_number Dc = 1
row_number AltV = 2
row_number AltI = 3
row_number DcReference = 4
row_number AcReference = 5
