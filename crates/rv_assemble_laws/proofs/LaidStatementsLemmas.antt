-- What follows from the definitions of LaidStatements, for all who cite them.

use Rattle.std.proofs.Common.{List, [], ◌∷◌, map, ◌≡◌, ℕ, false, refl}
use Rattle.std.specs.List.{AllByRecursion}
use Rattle.rv_statement_laws.specs.Statement.{StatementKind, Label, Numbered, Instruction, Directs, Sets, Aligns, Emits}
use Rattle.rv_unit_laws.specs.Tables.{Tables}
use Rattle.rv_source_laws.specs.Located.{Located, is_placed}
use Rattle.rv_assemble_laws.specs.LaidStatements.{LaidStatement, templates}

pub of_located : (P : Located → Type 0) (laid : List LaidStatement) → AllByRecursion P (map (λ s. s.located) laid) → AllByRecursion (λ s. P s.located) laid
of_located P [] h = tt
of_located P (s ∷ ss) (h, hs) = (h, of_located P ss hs)

pub unplaced_by : (t : Tables) (k : ℕ) (kind : StatementKind) → is_placed t k kind ≡ false → (u : Tables) (s : LaidStatement) → templates u s kind ≡ []
unplaced_by t k (Label name) e u s = absurd (cc)
unplaced_by t k (Numbered number) e u s = absurd (cc)
unplaced_by t k (Instruction mnemonic operands) e u s = absurd (cc)
unplaced_by t k (Directs (Sets name x)) e u s = refl
unplaced_by t k (Directs (Emits contents)) e u s = absurd (cc)
unplaced_by t k (Directs (Aligns form x)) e u s = absurd (cc)
unplaced_by t k (Directs _) e u s = refl
