-- Times and counters, each held so that it cannot overflow: a record that a C host hands in may hold any numbers.
use Rattle.std.specs.Prelude.{if◌then◌else◌, ℕ, ◌+◌, ◌-◌, ◌^◌, ltb}
use Rattle.tables.specs.Bounds.{at_most}

-- Rust's `now.saturating_sub(since)`, in ms. The logic's `◌-◌` stops at 0
abbrev pub elapsed : ℕ → ℕ → ℕ
elapsed now since = now - since

-- Document 01: "the deadline (the call's time plus the source's settle)", held to 64 bits
unfoldable pub deadline : ℕ → ℕ → ℕ
deadline now settle = at_most (2 ^ 64 - 1) (now + settle)

-- one more in a counter of 8 bits, which stays at its end
unfoldable pub count_up : ℕ → ℕ
count_up n = if ltb n 255 then n + 1 else n
