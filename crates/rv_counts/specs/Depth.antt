-- How deep the stack of a run went, by the values of sp (x2) that its events tell.

use Rattle.std.specs.Prelude.{◌≡◌, ℕ, ◌-◌, ◌^◌, min, max, Bool, true, false, not, ◌&&◌, if◌then◌else◌, nat_le, List, [], ◌∷◌, ◌++◌, fold, filter, slice_index}
use Rattle.rv_isa.specs.declared.instruction.Format.{Format}
use Rattle.rv_isa.specs.declared.instruction.Format.TheVariants.{Upper}
use Rattle.rv_isa.specs.Operations.{format_of}
use Rattle.rv_isa_laws.specs.Platform.{stack_start, stack_end}
use Rattle.rv_event_laws.specs.Event.{Event}
use Rattle.rv_event_laws.specs.Changes.{with_set}
use Rattle.rv_counts.specs.declared.depth.Depth.{Depth}
use Rattle.rv_counts.specs.Counted.{is_spelled, start_registers}

-- lui and auipc are the first of two instructions for an address: what they leave is none yet
abbrev pub is_upper : Format → Bool
is_upper (Upper operation x) = true
is_upper _ = false

abbrev pub is_begun : Event → Bool
is_begun e = is_spelled (λ i. is_upper (format_of i)) e.fetched

-- the values of sp after each event that does not begin an address, from registers on
abbrev pub sps_from : List ℕ → List Event → List ℕ
sps_from registers [] = []
sps_from registers (e ∷ es) =
    (if not (is_begun e) then slice_index (with_set e.set registers) 2 ∷ [] else []) ++
    sps_from (with_set e.set registers) es

abbrev pub sps : List Event → List ℕ
sps seen = sps_from start_registers seen

-- in the stack of the platform, or above it
abbrev pub is_in_stack : ℕ → Bool
is_in_stack sp = nat_le stack_start sp

-- among the program's variables, which stand from `first` to `last`
abbrev pub is_own : (first last : ℕ) → ℕ → Bool
is_own first last sp = not (is_in_stack sp) && (nat_le first sp && nat_le sp last)

abbrev pub lowest_in_stack : List Event → ℕ
lowest_in_stack seen = fold min stack_end (filter is_in_stack (sps seen))

abbrev pub own_sps : (first last : ℕ) → List Event → List ℕ
own_sps first last seen = filter (is_own first last) (sps seen)

-- the most bytes that sp has left below the end of the stack, or between its lowest and its highest
-- value among the variables: where a stack there begins, nothing else tells
abbrev pub deepest_of : (first last : ℕ) → List Event → ℕ
deepest_of first last seen =
    let own = own_sps first last seen in
    max (stack_end - lowest_in_stack seen) (fold max 0 own - fold min (2 ^ 64 - 1) own)

-- what is kept of the values
pub record HasDepth (depth : Depth) (seen : List Event) : Type 0 where
  pub lowest : depth.lowest ≡ lowest_in_stack seen
  pub lowest_own : depth.lowest_own ≡ fold min (2 ^ 64 - 1) (own_sps depth.first depth.last seen)
  pub highest_own : depth.highest_own ≡ fold max 0 (own_sps depth.first depth.last seen)

-- with one value more, after an event that begins an address or does not
abbrev pub with_sp : Depth → Bool → ℕ → Depth
with_sp d begun sp =
    let in_stack = not begun && is_in_stack sp in
    let own = not begun && is_own d.first d.last sp in
    record d {
      lowest = if in_stack then min d.lowest sp else d.lowest;
      lowest_own = if own then min d.lowest_own sp else d.lowest_own;
      highest_own = if own then max d.highest_own sp else d.highest_own;
    }
