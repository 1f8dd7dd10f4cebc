-- What a writer and what is kept have of the lines of events.

use Rattle.std.specs.Prelude.{◌≡◌, ℕ, List, ◌++◌, Option, Some, None}
use Rattle.rv_event_laws.specs.Event.{Event}
use Rattle.rv_event_text_laws.specs.EventLine.{lines_of}

-- what the writer has, and then what is kept, are the lines of these events and nothing else
abbrev pub HasLines : (written : Option (List ℕ)) (kept : List ℕ) → List Event → Type 0
HasLines None kept told = ⊥
HasLines (Some written) kept told = written ++ kept ≡ lines_of told
