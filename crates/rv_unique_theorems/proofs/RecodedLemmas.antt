-- The statements of two objects of one source: they differ at most in what neither object keeps.

use Rattle.std.proofs.Common.{◌≡◌, ℕ, ◌+◌, Bool, true, false, List, [], ◌∷◌, ◌++◌, refl, sym, ap, ◌∙◌, subst}
use Rattle.std.specs.Prelude.{◌&&◌, ◌||◌, ◌==◌, map, flat_map, unwrap_or, if◌then◌else◌}
use Rattle.std.specs.List.{list_any}
use Rattle.rv_statement_laws.specs.Statement.{StatementKind, Label, Numbered, Instruction, Directs}
use Rattle.rv_unit_laws.specs.Tables.{Tables}
use Rattle.rv_pseudo_laws.specs.Code.{code}
use Rattle.rv_object_laws.specs.declared.row.Row.{Row}
use Rattle.rv_source_laws.specs.Located.{Located}
use Rattle.rv_source_laws.specs.Compressed.{is_compressed_code}
use Rattle.rv_assemble_laws.specs.CodeFields.{part_fields}
use Rattle.rv_assemble_laws.specs.Coded.{constants}
use Rattle.rv_assemble_laws.specs.LaidStatements.{LaidStatement, expression_value, coded_templates, templates, parts_of, parts, laid_part, laid_in, Tile, end_of, HasSize}
use Rattle.rv_assemble_laws.specs.IsObjectOf.{row_of, rows_at}
use Rattle.rv_unique_theorems.proofs.OneCodeLemmas.{IsOneCode, code_one}
use Rattle.rv_unique_theorems.proofs.OneSizeLemmas.{directive_one}
use Rattle.rv_unique_theorems.proofs.PairsLemmas.{Pairs, SameBytes}
use Rattle.rv_unique_theorems.proofs.SaidLemmas.{IsSaid}

-- ---- offsets

abbrev pub SameOffset : LaidStatement → LaidStatement → Type 0
SameOffset x y = SameBytes x y × (x.offset ≡ y.offset)

pub offsets_one : (t : Tables) (o p : ℕ) → o ≡ p → (xs ys : List LaidStatement) → Pairs SameBytes xs ys → Tile t o xs → Tile t p ys → Pairs SameOffset xs ys
offsets_one t o p same [] [] h f g = tt
offsets_one t o p same [] (y ∷ ys) h f g = absurd h
offsets_one t o p same (x ∷ xs) [] h f g = absurd h
offsets_one t o p same (x ∷ xs) (y ∷ ys) ((l, n), hs) (at, a, f) (there, b, g) = (
  ((l, n), at ∙ same ∙ sym there),
  offsets_one t (o + x.bytes) (p + y.bytes) (ap (λ k. k + x.bytes) same ∙ ap (λ k. p + k) n) xs ys hs f g,
)

-- ---- one statement

-- a statement with other code
abbrev pub recode : LaidStatement → ℕ → List (List ℕ) → LaidStatement
recode s instructions coded =
    record { located = s.located; offset = s.offset; bytes = s.bytes; instructions = instructions; coded = coded }

-- neither its parts nor its row tell
pub record IsAlike (t : Tables) (s : LaidStatement) (instructions : ℕ) (coded : List (List ℕ)) : Type 0 where
  pub parts : parts_of t (recode s instructions coded) ≡ parts_of t s
  pub rows : rows_at (recode s instructions coded) ≡ rows_at s

pub data Recoded (t : Tables) : List LaidStatement → List LaidStatement → Type 0 where
  Ended : Recoded t [] []
  More : (s : LaidStatement) (instructions : ℕ) (coded : List (List ℕ)) (xs ys : List LaidStatement) → IsAlike t s instructions coded → Recoded t xs ys
      → Recoded t (s ∷ xs) (recode s instructions coded ∷ ys)

module _ (t : Tables) where
  -- by the kind of statement: the code of an instruction is one
  abbrev IsSameCode : LaidStatement → ℕ → List (List ℕ) → StatementKind → Type 0
  IsSameCode s instructions coded kind = (templates t (recode s instructions coded) kind ≡ templates t s kind) × (instructions ≡ s.instructions)

  same_code : (s : LaidStatement) (i : ℕ) (c : List (List ℕ)) (a b : ℕ) (kind : StatementKind) → HasSize (expression_value t s.located) s a kind → HasSize (expression_value t s.located) (recode s i c) b kind
      → IsSameCode s i c kind
  same_code s i c a b (Label name) (n, x) (m, y) = (refl, y ∙ sym x)
  same_code s i c a b (Numbered number) (n, x) (m, y) = (refl, y ∙ sym x)
  same_code s i c a b (Instruction mnemonic os) h k =
      let one : IsOneCode s.bytes s.bytes c s.coded i s.instructions =
      code_one (expression_value t s.located) s.located.options.rvc mnemonic os s.bytes s.bytes c s.coded i s.instructions refl k h in (
        ap (coded_templates (part_fields t (expression_value t s.located) s.located) (unwrap_or (code (constants (expression_value t s.located)) s.located.options.rvc s.bytes mnemonic os) [])) one.coded,
        one.instructions,
      )
  same_code s i c a b (Directs d) h k = (refl, sym (directive_one (expression_value t s.located) s (recode s i c) a b d refl (λ e. refl) h k).1)

  unplaced_row : (placed loaded : Bool) (x y : Row) → placed ≡ false → ◌≡◌ {A = List Row} (if placed && loaded then x ∷ [] else []) (if placed && loaded then y ∷ [] else [])
  unplaced_row true loaded x y e = absurd (cc)
  unplaced_row false loaded x y e = refl

  alike_by : (s : LaidStatement) (i : ℕ) (c : List (List ℕ)) (a b : ℕ) (placed : Bool) → s.located.placed ≡ placed → IsSaid t a s → IsSaid t b (recode s i c) → IsAlike t s i c
  alike_by s i c a b true e h k =
      let same = same_code s i c a b s.located.kind (h.size e) (k.size e) in
      record {
        parts = ap (map (laid_part s.located.ordinal)) same.0;
        rows = ap (λ n. rows_at (recode s n c)) same.1;
      }
  alike_by s i c a b false e h k = record {
    parts = ap (map (laid_part s.located.ordinal)) (k.bare e ∙ sym (h.bare e));
    rows = unplaced_row s.located.placed s.located.home.loaded (row_of (recode s i c)) (row_of s) e;
  }

  -- both of two statements
  abbrev Said : ℕ → ℕ → LaidStatement → LaidStatement → Type 0
  Said a b x y = SameOffset x y × (IsSaid t a x × IsSaid t b y)

  recoded_path : (x y : LaidStatement) → SameOffset x y → y ≡ recode x y.instructions y.coded
  recoded_path x y ((l, n), o) =
      ap (λ (z : Located). record { located = z; offset = y.offset; bytes = y.bytes; instructions = y.instructions; coded = y.coded }) (sym l)
      ∙ ap (λ k. record { located = x.located; offset = k; bytes = y.bytes; instructions = y.instructions; coded = y.coded }) (sym o)
      ∙ ap (λ k. record { located = x.located; offset = x.offset; bytes = k; instructions = y.instructions; coded = y.coded }) (sym n)

  -- what is said of all statements, whatever the sections' alignments
  abbrev pub AreSaid : LaidStatement → LaidStatement → Type 0
  AreSaid x y = SameOffset x y × ((a : ℕ) × IsSaid t a x) × ((b : ℕ) × IsSaid t b y)

  pub recoded : (xs ys : List LaidStatement) → Pairs AreSaid xs ys → Recoded t xs ys
  recoded [] [] h = Ended
  recoded [] (y ∷ ys) h = absurd h
  recoded (x ∷ xs) [] h = absurd h
  recoded (x ∷ xs) (y ∷ ys) ((same, (a, h), (b, k)), hs) =
      let is : y ≡ recode x y.instructions y.coded = recoded_path x y same in
      subst (λ z. Recoded t (x ∷ xs) (z ∷ ys)) (sym is)
      (More x y.instructions y.coded xs ys (alike_by x y.instructions y.coded a b x.located.placed refl h (subst (IsSaid t b) is k)) (recoded xs ys hs))

  -- ---- what two objects keep of them

  append_same : {X : Type 0} (a b c d : List X) → a ≡ b → c ≡ d → a ++ c ≡ b ++ d
  append_same a b c d e f = ap (λ l. l ++ c) e ∙ ap (λ l. b ++ l) f

  pub parts_same : (xs ys : List LaidStatement) → Recoded t xs ys → parts t ys ≡ parts t xs
  parts_same _ _ Ended = refl
  parts_same _ _ (More s i c xs ys one rest) = append_same (parts_of t (recode s i c)) (parts_of t s) (parts t ys) (parts t xs) one.parts (parts_same xs ys rest)

  pub rows_same : (xs ys : List LaidStatement) → Recoded t xs ys → flat_map rows_at ys ≡ flat_map rows_at xs
  rows_same _ _ Ended = refl
  rows_same _ _ (More s i c xs ys one rest) = append_same (rows_at (recode s i c)) (rows_at s) (flat_map rows_at ys) (flat_map rows_at xs) one.rows (rows_same xs ys rest)

  pub ends_same : (o : ℕ) (xs ys : List LaidStatement) → Recoded t xs ys → end_of o ys ≡ end_of o xs
  ends_same o _ _ Ended = refl
  ends_same o _ _ (More s i c xs ys one rest) = ends_same (o + s.bytes) xs ys rest

  kept_same : (b : Bool) (s : LaidStatement) (i : ℕ) (c : List (List ℕ)) (xs ys : List LaidStatement) → IsAlike t s i c → Recoded t xs ys
      → Recoded t (if b then s ∷ xs else xs) (if b then recode s i c ∷ ys else ys)
  kept_same true s i c xs ys one rest = More s i c xs ys one rest
  kept_same false s i c xs ys one rest = rest

  pub section_same : (j : ℕ) (xs ys : List LaidStatement) → Recoded t xs ys → Recoded t (laid_in j xs) (laid_in j ys)
  section_same j _ _ Ended = Ended
  section_same j _ _ (More s i c xs ys one rest) = kept_same (s.located.section == j) s i c (laid_in j xs) (laid_in j ys) one (section_same j xs ys rest)

  pub compressed_same : (xs ys : List LaidStatement) → Recoded t xs ys → list_any (λ s. is_compressed_code s.located) ys ≡ list_any (λ s. is_compressed_code s.located) xs
  compressed_same _ _ Ended = refl
  compressed_same _ _ (More s i c xs ys one rest) = ap (λ b. is_compressed_code s.located || b) (compressed_same xs ys rest)
