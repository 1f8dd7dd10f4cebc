-- Lines that are kept, and written.

use Rattle.std.proofs.Common.{◌≡◌, ℕ, List, [], ◌∷◌, ◌++◌, Option, Some, None, sym, ap, ◌∙◌, append_assoc, append-nil}
use Rattle.std.specs.Io.KnownBytes.{Appends}
use Rattle.std.proofs.lemmas.List.{flat_map_more}
use Rattle.rv_event_laws.specs.Event.{Event}
use Rattle.rv_event_text_laws.specs.EventLine.{event_line, lines_of}
use Rattle.rv_event_text.specs.Written.{HasLines}

-- one line more is kept
pub one_more : (written : Option (List ℕ)) (kept after : List ℕ) (told : List Event) (e : Event) → after ≡ kept ++ event_line e → HasLines written kept told → HasLines written after (told ++ (e ∷ []))
one_more None kept after told e next has = absurd has
one_more (Some xs) kept after told e next has =
    ap (λ (l : List ℕ). xs ++ l) next ∙ sym (append_assoc xs kept (event_line e)) ∙ ap (λ (l : List ℕ). l ++ event_line e) has
    ∙ flat_map_more event_line [] told e

-- what was kept is written
pub written_out : (before after : Option (List ℕ)) (kept left : List ℕ) (told : List Event) → Appends before after kept → left ≡ [] → HasLines before kept told → HasLines after left told
written_out None after kept left told grows none has = absurd has
written_out (Some xs) None kept left told grows none has = absurd grows
written_out (Some xs) (Some ys) kept left told grows none has =
    ap (λ (l : List ℕ). ys ++ l) none ∙ append-nil ys ∙ grows ∙ has

-- nothing is kept: the writer has them all
pub all_written : (written : Option (List ℕ)) (kept : List ℕ) (told : List Event) → kept ≡ [] → HasLines written kept told → written ≡ Some (lines_of told)
all_written None kept told none has = absurd has
all_written (Some xs) kept told none has =
    ap (λ (l : List ℕ). Some l) (sym (append-nil xs) ∙ sym (ap (λ (l : List ℕ). xs ++ l) none) ∙ has)
