-- The flags byte, `R_INTF`: a bit for each converter that has a result. The source: INTF_AD1 is 1 << 2, INTF_LPF 1 << 3, INTF_RMS 1 << 4.
use Rattle.std.specs.Prelude.{ℕ, ◌/◌, ◌%◌, ◌^◌, Bool, ◌&&◌, eqb}

-- whether bit k of n is set
abbrev pub bit_set : ℕ → ℕ → Bool
bit_set k n = eqb (n / 2 ^ k % 2) 1

-- "the AD1 bit"
unfoldable pub holds_ad1 : ℕ → Bool
holds_ad1 flags = bit_set 2 flags

-- "both RMS and LPF bits"
unfoldable pub holds_rms_lpf : ℕ → Bool
holds_rms_lpf flags = bit_set 4 flags && bit_set 3 flags
