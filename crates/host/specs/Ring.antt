-- One conversion of the ring. Document 01: "sixteen latest conversions are kept with the meter, by `ring_k` modulo 16".
use Rattle.std.specs.Prelude.{true, false, ◌&&◌, if◌then◌else◌, ℕ, ◌-◌, ◌%◌, ltb, pos, get_or}
use Rattle.state.specs.declared.Ring.{Ring}
use Rattle.host.specs.declared.ring.HostConversion.{HostConversion}

abbrev pub no_conversion : HostConversion
no_conversion = record { found = false; stat = 0; disc = false; rms = pos 0; lpf = pos 0; dt = 0 }

abbrev pub slot : Ring → ℕ → HostConversion
slot r k =
    record {
      found = true;
      stat = get_or r.stat k 0;
      disc = get_or r.disc k false;
      rms = get_or r.rms k (pos 0);
      lpf = get_or r.lpf k (pos 0);
      dt = get_or r.dt k 0;
    }

-- the latest, of age 0, has the number ring_k - 1
unfoldable pub conversion : Ring → ℕ → HostConversion
conversion r age = if ltb age 16 && ltb age r.ring_k then slot r ((r.ring_k - 1 - age) % 16) else no_conversion
