-- Refusal 7, by document 01: "one of its six numbers is NaN or outside 2^-20 to 2^20, ends allowed".
use Rattle.std.specs.Prelude.{Bool, ◌&&◌, if◌then◌else◌, Float, Result, Ok, Err}
use Rattle.std.specs.List.{list_all}
use Rattle.std.specs.Float.{binary32}
use Rattle.std.specs.Float.Ieee.{of_bits}
use Rattle.refusals.specs.declared.Refusal.{Refusal}
use Rattle.refusals.specs.declared.Refusal.TheVariants as refusal
use Rattle.tables.specs.Bounds.{within}
use Rattle.tables.specs.declared.description.Description.{Description}

abbrev pub least : Float
least = of_bits binary32 0x3580_0000  -- 2^-20

abbrev pub most : Float
most = of_bits binary32 0x4980_0000  -- 2^20

unfoldable pub in_bounds : Float → Bool
in_bounds x = within least most x

-- the six: "two `MV_DIV` values, three `SHUNT` values, one over ratio"
unfoldable pub check_description : Description → Result Unit Refusal
check_description d = if list_all in_bounds d.mv_div && list_all in_bounds d.shunt && in_bounds d.over then Ok tt else Err refusal.Description
