-- Segments as plain values, and how they lie in memory (System V gABI, "Program Header").

use Rattle.rv_isa_laws.specs.Platform.{stack_start, stack_end}
use Rattle.std.specs.Prelude.{ℕ, ◌+◌, ◌-◌, min, max, nat_lt, Bool, true, not, ◌&&◌, List, [], ◌∷◌, length, sum_by}
use Rattle.std.specs.List.{list_all}

-- bytes that stand in memory from an address on, with rights: 1 to execute, 2 to write, 4 to read
pub record Segment : Type 0 where
  pub address : ℕ
  pub bytes : List ℕ
  pub flags : ℕ

-- whether an address is both among the size from start on and among those from start' on
abbrev pub do_meet : ℕ → ℕ → ℕ → ℕ → Bool
do_meet start size start' size' = nat_lt (max start start') (min (start + size) (start' + size'))

abbrev pub meets_segment : Segment → Segment → Bool
meets_segment s t = do_meet s.address (length s.bytes) t.address (length t.bytes)

abbrev pub meets_stack : Segment → Bool
meets_stack s = do_meet s.address (length s.bytes) stack_start (stack_end - stack_start)

-- no address lies in two segments, or in one and the stack
abbrev pub are_apart : List Segment → Bool
are_apart [] = true
are_apart (s ∷ ss) =
    not (meets_stack s) && list_all (λ t. not (meets_segment s t)) ss && are_apart ss

-- how many bytes of memory the segments have
abbrev pub memory_size : List Segment → ℕ
memory_size segments = sum_by (λ s. length s.bytes) segments
