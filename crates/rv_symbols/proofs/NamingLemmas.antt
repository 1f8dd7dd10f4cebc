-- The names that statements define.

use Rattle.std.proofs.Common.{◌≡◌, ℕ, ◌+◌, ◌*◌, ◌≤◌, Bool, true, false, List, [], ◌∷◌, ◌++◌, length, map, refl, sym, ap, ◌∙◌, arith, append_assoc}
use Rattle.std.specs.Prelude.{◌&&◌, ◌||◌, ◌==◌, nat_lt, not, filter, if◌then◌else◌}
use Rattle.std.specs.List.{list_all}
use Rattle.std.proofs.lemmas.Bool.{and_parts}
use Rattle.std.proofs.lemmas.List.Folds.{list_any-append}
use Rattle.rv_statement_laws.specs.Statement.{StatementKind}
use Rattle.rv_map_laws.specs.Name.{is_name, is_name_byte}
use Rattle.rv_source_laws.specs.Exports.{defined_name}
use Rattle.rv_unit_laws.specs.Tables.{Tables}
use Rattle.rv_object_laws.specs.declared.symbol.Definition.{Definition as Defined}
use Rattle.rv_object_laws.specs.declared.symbol.Definition.TheVariants.{Undefined, Absolute, InSection, Skipped}
use Rattle.rv_object_laws.specs.Object.{Symbol}
use Rattle.rv_object_laws.specs.Valid.{is_string}
use Rattle.rv_object_laws.proofs.ValidLemmas.{no_zero}
use Rattle.rv_assemble_laws.specs.LaidStatements.{LaidStatement}
use Rattle.rv_assemble_laws.specs.Symbols.{SymbolUse, local_symbol, shared_symbol, is_absolute, references, is_meant, unnamed_symbols, named_symbols, local_symbols}
use Rattle.rv_symbols.specs.Source.{place_in}
use Rattle.rv_symbols.specs.Found.{is_number, same_place, is_seen}

-- ---- the names of one statement

abbrev pub local_names : (List ℕ → Bool) → Defined → List (List ℕ) → List Symbol
local_names shared d names = filter (λ x. not (is_absolute x)) (map (λ name. local_symbol name d) (filter (λ name. not (shared name)) names))

pub local_none : (shared : List ℕ → Bool) (d : Defined) (names : List (List ℕ)) → [] ≡ names → [] ≡ local_names shared d names
local_none shared d names e = ap (local_names shared d) e

if_not : (b c : Bool) (name : List ℕ) (names : List (List ℕ)) → b ≡ c → (if not b then name ∷ names else names) ≡ (if not c then name ∷ names else names)
if_not b c name names e = ap (λ x. if not x then name ∷ names else names) e

pub local_shared : (shared : List ℕ → Bool) (d : Defined) (names : List (List ℕ)) (name : List ℕ) → name ∷ [] ≡ names → shared name ≡ true → [] ≡ local_names shared d names
local_shared shared d names name e g =
    sym (ap (λ l. filter (λ x. not (is_absolute x)) (map (λ name. local_symbol name d) l)) (if_not (shared name) true name [] g)) ∙ ap (local_names shared d) e

one_number : (d : Defined) (name : List ℕ) → is_number d ≡ true → filter (λ x. not (is_absolute x)) (local_symbol name d ∷ []) ≡ []
one_number (Absolute n) name e = refl
one_number Undefined name e = absurd (cc)
one_number (InSection s o) name e = absurd (cc)
one_number (Skipped n) name e = absurd (cc)

one_place : (d : Defined) (name : List ℕ) → is_number d ≡ false → filter (λ x. not (is_absolute x)) (local_symbol name d ∷ []) ≡ local_symbol name d ∷ []
one_place (Absolute n) name e = absurd (cc)
one_place Undefined name e = refl
one_place (InSection s o) name e = refl
one_place (Skipped n) name e = refl

pub local_number : (shared : List ℕ → Bool) (d : Defined) (names : List (List ℕ)) (name : List ℕ) → name ∷ [] ≡ names → shared name ≡ false → is_number d ≡ true → [] ≡ local_names shared d names
local_number shared d names name e g n =
    sym (ap (λ l. filter (λ x. not (is_absolute x)) (map (λ name. local_symbol name d) l)) (if_not (shared name) false name [] g) ∙ one_number d name n) ∙ ap (local_names shared d) e

pub local_one : (shared : List ℕ → Bool) (d : Defined) (names : List (List ℕ)) (name : List ℕ) → name ∷ [] ≡ names → shared name ≡ false → is_number d ≡ false
    → local_symbol name d ∷ [] ≡ local_names shared d names
local_one shared d names name e g n =
    sym (ap (λ l. filter (λ x. not (is_absolute x)) (map (λ name. local_symbol name d) l)) (if_not (shared name) false name [] g) ∙ one_place d name n) ∙ ap (local_names shared d) e

abbrev pub shared_names : Tables → (List ℕ → Bool) → Defined → List (List ℕ) → List Symbol
shared_names t shared d names = map (λ name. shared_symbol t name d) (filter shared names)

if_same : (b c : Bool) (name : List ℕ) → b ≡ c → (if b then name ∷ [] else []) ≡ (if c then name ∷ [] else [])
if_same b c name e = ap (λ x. if x then name ∷ [] else []) e

pub shared_none : (t : Tables) (shared : List ℕ → Bool) (d : Defined) (names : List (List ℕ)) → [] ≡ names → [] ≡ shared_names t shared d names
shared_none t shared d names e = ap (shared_names t shared d) e

pub shared_local : (t : Tables) (shared : List ℕ → Bool) (d : Defined) (names : List (List ℕ)) (name : List ℕ) → name ∷ [] ≡ names → shared name ≡ false → [] ≡ shared_names t shared d names
shared_local t shared d names name e g = sym (ap (λ l. map (λ name. shared_symbol t name d) l) (if_same (shared name) false name g)) ∙ ap (shared_names t shared d) e

pub shared_one : (t : Tables) (shared : List ℕ → Bool) (d : Defined) (names : List (List ℕ)) (name : List ℕ) → name ∷ [] ≡ names → shared name ≡ true → shared_symbol t name d ∷ [] ≡ shared_names t shared d names
shared_one t shared d names name e g = sym (ap (λ l. map (λ name. shared_symbol t name d) l) (if_same (shared name) true name g)) ∙ ap (shared_names t shared d) e

pub name_is_string : (name : List ℕ) → is_name name ≡ true → is_string name ≡ true
name_is_string name h = no_zero name (and_parts (nat_lt 0 (length name)) (list_all is_name_byte name) h).1

-- ---- one statement more

module _ (t : Tables) (laid : List LaidStatement) (rs : List SymbolUse) where
  eqb_swap : (a b : ℕ) → (a == b) ≡ (b == a)
  eqb_swap a b = grind (arith)

  and_swap : (a b : Bool) → (a && b) ≡ (b && a)
  and_swap true true = refl
  and_swap true false = refl
  and_swap false true = refl
  and_swap false false = refl

  or_none : (a : Bool) → (a || false) ≡ a
  or_none true = refl
  or_none false = refl

  place_swap : (p q : ℕ × ℕ) → same_place p q ≡ same_place q p
  place_swap p q = ap (λ b. b && (p.1 == q.1)) (eqb_swap p.0 q.0) ∙ ap (λ b. (q.0 == p.0) && b) (eqb_swap p.1 q.1)

  pub seen_more : (before : List LaidStatement) (s : LaidStatement) (meant old new : Bool) (q : ℕ × ℕ) → meant ≡ is_meant t rs s → old ≡ is_seen t rs before q
      → new ≡ (old || meant && same_place (place_in s) q) → new ≡ is_seen t rs (before ++ s ∷ []) q
  seen_more before s meant old new q m o n =
      n ∙ ap (λ b. b || meant && same_place (place_in s) q) o
      ∙ ap (λ b. is_seen t rs before q || b)
      (and_swap meant (same_place (place_in s) q) ∙ ap (λ b. b && meant) (place_swap (place_in s) q) ∙ ap (λ b. same_place q (place_in s) && b) m ∙ sym (or_none (same_place q (place_in s) && is_meant t rs s)))
      ∙ sym (list_any-append (λ y. same_place q (place_in y) && is_meant t rs y) before (s ∷ []))

-- the local symbols so far, and those that are left
pub locals_more : (t : Tables) (laid before rest : List LaidStatement) (s : LaidStatement) (rs : List SymbolUse) (meant seen : Bool) (old new all : List Symbol)
    → meant ≡ is_meant t rs s → seen ≡ is_seen t rs before (place_in s) → rs ≡ references t laid
    → new ≡ old ++ ((if meant && not seen then local_symbol [] (InSection s.located.section s.offset) ∷ [] else []) ++ named_symbols t laid s)
    → old ++ local_symbols t laid before (s ∷ rest) ≡ all → new ++ local_symbols t laid (before ++ s ∷ []) rest ≡ all
locals_more t laid before rest s rs meant seen old new all m o r n h =
    let more = local_symbols t laid (before ++ s ∷ []) rest in
    let named = named_symbols t laid s in
    let one : Bool → List Symbol = λ b. if b then local_symbol [] (InSection s.located.section s.offset) ∷ [] else [] in
    let unnamed = one (meant && not seen) in
    let same : unnamed ≡ unnamed_symbols t (references t laid) before s =
    ap (λ b. one (b && not seen)) m ∙ ap (λ b. one (is_meant t rs s && not b)) o ∙ ap (λ l. unnamed_symbols t l before s) r in
    ap (λ l. l ++ more) n
    ∙ append_assoc old (unnamed ++ named) more
    ∙ ap (λ l. old ++ l) (append_assoc unnamed named more)
    ∙ ap (λ l. old ++ (l ++ (named ++ more))) same
    ∙ h

-- the name that a statement defines, by its index
pub named_at : (t : Tables) (names : List (List ℕ)) (index : ℕ) (s : LaidStatement) (kind : StatementKind) → s.located.ordinal ≡ index + 1 → kind ≡ s.located.kind → names ≡ defined_name t (index + 1) kind
    → names ≡ defined_name t s.located.ordinal s.located.kind
named_at t names index s kind o k e = e ∙ ap (defined_name t (index + 1)) k ∙ ap (λ n. defined_name t n s.located.kind) (sym o)

-- ---- how many

pub two_more : (now new i : ℕ) → now ≤ 2 * i → new ≤ now + 2 → new ≤ 2 * (i + 1)
two_more now new i h k = omega (arith, h, k)
