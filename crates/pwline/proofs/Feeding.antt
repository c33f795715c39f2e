-- The bytes of a part from an index on.
use Rattle.std.proofs.Common.{◌≡◌, ℕ, ◌+◌, ◌<◌, ◌≤◌, List, length, get_or, drop, drop_of_length-le, drop-cons, add-one}
use Rattle.pwline.specs.declared.session.Session.{Session}
use Rattle.pwline.specs.Divided.{fed, fed_all}

pub fed_next : (s : Session) (part : List ℕ) (i : ℕ) → i < length part → fed_all s (drop i part) ≡ fed_all (fed s (get_or part i 0)) (drop (i + 1) part)
unfolding fed_all
fed_next s part i h = rw (drop-cons part i 0 h, add-one)

pub fed_end : (s : Session) (part : List ℕ) (i : ℕ) → length part ≤ i → fed_all s (drop i part) ≡ s
unfolding fed_all
fed_end s part i h = rw (drop_of_length-le part h)
