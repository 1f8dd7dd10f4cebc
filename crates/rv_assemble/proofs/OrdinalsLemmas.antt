-- Statements with their ordinals as their lines have the faults that they have at their own lines.

use Rattle.std.proofs.Common.{◌≡◌, ℕ, zero, suc, ◌+◌, ◌≤◌, ◌==◌, Bool, true, false, List, [], ◌∷◌, ◌++◌, length, refl, sym, ap, ◌∙◌, subst, arith, Option, Some, None, inl, inr, slice_get}
use Rattle.std.specs.Prelude.{⊤, nat_lt, if◌then◌else◌}
use Rattle.rv_expression_laws.specs.Codes.{limit, lowest}
use Rattle.rv_expression_laws.specs.Values.{Value, Constant, Symbolic, Difference, Faulty}
use Rattle.rv_statement_laws.specs.Limits.{most_statements}
use Rattle.rv_statement_laws.specs.Statement.{StatementKind, Label, Numbered, Instruction, Directs, Statement, Operand, Expression}
use Rattle.rv_size_laws.specs.declared.item.Forms.{Forms}
use Rattle.rv_size_laws.specs.declared.item.Forms.TheVariants.{Settled, CompressedBranch, Branch, CompressedJump}
use Rattle.rv_size_laws.specs.declared.item.Item.{Item}
use Rattle.rv_size_laws.specs.Branches.{IsLeastGood}
use Rattle.rv_unit_laws.specs.Bindings.{Bindings, bindings_after, all_local, bound_by}
use Rattle.rv_unit_laws.specs.Tables.{Tables, Definition, at_start, after, after_all, tables, longest_section, sure_definition, value_by_tables}
use Rattle.rv_unit_laws.specs.Faults.{StatementFault, at_line, faults, first_fault_from, first_unit_fault}
use Rattle.rv_unit_laws.proofs.FewLemmas.{first_of_few}
use Rattle.rv_source_laws.specs.Located.{Located, located_now, located_from}
use Rattle.rv_source_laws.specs.Program.{place_of}
use Rattle.rv_source_laws.specs.Sizes.{Near, near_at, near_value, near_target, target_in, branch_item, item_by, item_by_kind, items_of, near_forms, AreLeast}
use Rattle.rv_assemble_laws.specs.Refusals.{code_faults_at, code_fault_from, code_fault, AreCodeSizes, grown, size_fault_from, IsTooLong, else_fault, statements_fault, IsStatementsFault}
use Rattle.rv_assemble.specs.Ordinals.{by_ordinal_from, by_ordinal, IsAtLine, IsRefusedFor}

-- ---- what they define

bindings_same : (k : ℕ) (ss : List Statement) (b : Bindings) → bindings_after (by_ordinal_from k ss) b ≡ bindings_after ss b
bindings_same k [] b = refl
bindings_same k (s ∷ ss) b = bindings_same (suc k) ss (bound_by s.kind b)

start_same : (ss : List Statement) → at_start (by_ordinal ss) ≡ at_start ss
start_same ss = ap (λ (b : Bindings). record (at_start []) { bindings = b }) (bindings_same 1 ss all_local)

after_same : (t : Tables) (k o : ℕ) (ss : List Statement) → after_all t k (by_ordinal_from o ss) ≡ after_all t k ss
after_same t k o [] = refl
after_same t k o (s ∷ ss) = after_same (after t k s.kind) (suc k) (suc o) ss

tables_same : (ss : List Statement) → tables (by_ordinal ss) ≡ tables ss
tables_same ss = after_same (at_start (by_ordinal ss)) 1 1 ss ∙ ap (λ (t : Tables). after_all t 1 ss) (start_same ss)

-- ---- faults of one code, at an ordinal and at its line

abbrev Alike : (ℕ → ℕ → Type 0) → Option StatementFault → Option StatementFault → Type 0
Alike P None None = ⊤
Alike P None (Some g) = ⊥
Alike P (Some f) None = ⊥
Alike P (Some f) (Some g) = (f.code ≡ g.code) × P f.line g.line

alike_at : (P : ℕ → ℕ → Type 0) (o l : ℕ) (code : Option ℕ) (f g : Option StatementFault) → P o l → Alike P f g → Alike P (at_line o code f) (at_line l code g)
alike_at P o l None f g at others = others
alike_at P o l (Some code) f g at others = (refl, at)

-- each statement's ordinal and its line
abbrev Each : (ℕ → ℕ → Type 0) → ℕ → List Statement → Type 0
Each P k ss = (i n : ℕ) (s : Statement) → slice_get ss i ≡ Some s → n ≡ i + k → P n s.line

each_rest : (P : ℕ → ℕ → Type 0) (k : ℕ) (s : Statement) (ss : List Statement) → Each P k (s ∷ ss) → Each P (suc k) ss
each_rest P k s ss each i n x got is = each (suc i) n x got (omega (arith, is))

each_first : (P : ℕ → ℕ → Type 0) (k : ℕ) (s : Statement) (ss : List Statement) → Each P k (s ∷ ss) → P k s.line
each_first P k s ss each = each zero k s refl (omega arith)

-- ---- those of labels and directives

unit_alike : (P : ℕ → ℕ → Type 0) (all t : Tables) (k : ℕ) (ss : List Statement) → Each P k ss → Alike P (first_fault_from all t k (by_ordinal_from k ss)) (first_fault_from all t k ss)
unit_alike P all t k [] each = tt
unit_alike P all t k (s ∷ ss) each =
    alike_at P k s.line (lowest (faults all t k s.kind)) (first_fault_from all (after t k s.kind) (suc k) (by_ordinal_from (suc k) ss)) (first_fault_from all (after t k s.kind) (suc k) ss)
    (each_first P k s ss each) (unit_alike P all (after t k s.kind) (suc k) ss (each_rest P k s ss each))

-- ---- those of code

-- the statements of a file where they stand
abbrev stand : Tables → ℕ → List Statement → List Located
stand u k ss = located_from 1 k u ss ++ []

code_alike : (P : ℕ → ℕ → Type 0) (t u : Tables) (k : ℕ) (ss : List Statement) → Each P k ss → Alike P (code_fault_from t (stand u k (by_ordinal_from k ss))) (code_fault_from t (stand u k ss))
code_alike P t u k [] each = tt
code_alike P t u k (s ∷ ss) each =
    alike_at P k s.line (lowest (code_faults_at t (located_now 1 k u s))) (code_fault_from t (stand (after u k s.kind) (suc k) (by_ordinal_from (suc k) ss))) (code_fault_from t (stand (after u k s.kind) (suc k) ss))
    (each_first P k s ss each) (code_alike P t (after u k s.kind) (suc k) ss (each_rest P k s ss each))

-- ---- those of sizes

sizes_same : (t u : Tables) (k : ℕ) (ss : List Statement) (sizes : List ℕ) → AreCodeSizes t (stand u k (by_ordinal_from k ss)) sizes → AreCodeSizes t (stand u k ss) sizes
sizes_same t u k [] [] are = tt
sizes_same t u k [] (n ∷ ns) are = are
sizes_same t u k (s ∷ ss) [] are = are
sizes_same t u k (s ∷ ss) (n ∷ ns) are = (are.0, sizes_same t (after u k s.kind) (suc k) ss ns are.1)

size_alike : (P : ℕ → ℕ → Type 0) (before : ℕ → ℕ) (u : Tables) (k : ℕ) (ss : List Statement) (sizes : List ℕ) → Each P k ss
    → Alike P (size_fault_from before (stand u k (by_ordinal_from k ss)) sizes) (size_fault_from before (stand u k ss) sizes)
size_alike P before u k [] sizes each = tt
size_alike P before u k (s ∷ ss) [] each = tt
size_alike P before u k (s ∷ ss) (n ∷ ns) each =
    let here = located_now 1 k u s in
    alike_at P k s.line (if nat_lt longest_section (before here.section + n) then Some limit else None)
    (size_fault_from (grown before here.section n) (stand (after u k s.kind) (suc k) (by_ordinal_from (suc k) ss)) ns) (size_fault_from (grown before here.section n) (stand (after u k s.kind) (suc k) ss) ns)
    (each_first P k s ss each) (size_alike P (grown before here.section n) (after u k s.kind) (suc k) ss ns (each_rest P k s ss each))

-- the least sizes: a target is found by its ordinal
near_same : (u : Tables) (k : ℕ) (ss : List Statement) (section : ℕ) (d : Option Definition) (plus : ℕ) → near_at (stand u k (by_ordinal_from k ss)) section d plus ≡ near_at (stand u k ss) section d plus
near_same u k ss section None plus = refl
near_same u k [] section (Some d) plus = refl
near_same u k (s ∷ ss) section (Some d) plus = go (k == d.ordinal) refl (near_same (after u k s.kind) (suc k) ss section (Some d) plus)
  where
    go : (b : Bool) → (k == d.ordinal) ≡ b
        → near_at (stand (after u k s.kind) (suc k) (by_ordinal_from (suc k) ss)) section (Some d) plus ≡ near_at (stand (after u k s.kind) (suc k) ss) section (Some d) plus
        → near_at (stand u k (by_ordinal_from k (s ∷ ss))) section (Some d) plus ≡ near_at (stand u k (s ∷ ss)) section (Some d) plus
    go true is others = rw (is, near_at) refl
    go false is others = rw (is, near_at) others

module _ (t u : Tables) (k : ℕ) (whole : List Statement) where
  abbrev some : List Located
  some = stand u k (by_ordinal_from k whole)

  abbrev all : List Located
  all = stand u k whole

  value_same : (y : Located) (m : ℕ) (v : Value) → near_value t some (record y { line = m }) v ≡ near_value t all y v
  value_same y m (Symbolic symbol at plus) = near_same u k whole y.section (sure_definition t y.ordinal symbol) plus
  value_same y m (Constant n) = refl
  value_same y m (Difference a b n) = refl
  value_same y m (Faulty code) = refl

  target_same : (y : Located) (m : ℕ) (os : List Operand) → near_target t some (record y { line = m }) os ≡ near_target t all y os
  target_same y m os = go (target_in os)
    where
      go : (o : Option Expression) → ◌≡◌ {A = Option Near} (elim o [ None ↦ None | Some e ↦ near_value t some (record y { line = m }) (value_by_tables t true y.ordinal (place_of y) e) ])
          (elim o [ None ↦ None | Some e ↦ near_value t all y (value_by_tables t true y.ordinal (place_of y) e) ])
      go None = refl
      go (Some e) = value_same y m (value_by_tables t true y.ordinal (place_of y) e)

  branch_same : (y : Located) (m : ℕ) (forms : Forms) (n : Option Near) → branch_item (record y { line = m }) forms n ≡ branch_item y forms n
  branch_same y m forms None = refl
  branch_same y m forms (Some n) = refl

  formed_same : (y : Located) (m : ℕ) (os : List Operand) (forms : Forms) → branch_item (record y { line = m }) forms (near_target t some (record y { line = m }) os) ≡ branch_item y forms (near_target t all y os)
  formed_same y m os forms = branch_same y m forms (near_target t some (record y { line = m }) os) ∙ ap (λ n. branch_item y forms n) (target_same y m os)

  item_same : (y : Located) (m n : ℕ) (os : List Operand) (forms : Option Forms) → item_by t some (record y { line = m }) n os forms ≡ item_by t all y n os forms
  item_same y m n os None = refl
  item_same y m n os (Some (Settled size)) = refl
  item_same y m n os (Some CompressedBranch) = formed_same y m os CompressedBranch
  item_same y m n os (Some Branch) = formed_same y m os Branch
  item_same y m n os (Some CompressedJump) = formed_same y m os CompressedJump

  kind_same : (y : Located) (m n : ℕ) (kind : StatementKind) → item_by_kind t some (record y { line = m }) n kind ≡ item_by_kind t all y n kind
  kind_same y m n (Label name) = refl
  kind_same y m n (Numbered number) = refl
  kind_same y m n (Instruction mnemonic os) = item_same y m n os (near_forms y.options.rvc mnemonic os)
  kind_same y m n (Directs directive) = refl

  items_same : (v : Tables) (j : ℕ) (ss : List Statement) (sizes : List ℕ) → items_of t some (stand v j (by_ordinal_from j ss)) sizes ≡ items_of t all (stand v j ss) sizes
  items_same v j [] sizes = refl
  items_same v j (s ∷ ss) [] = refl
  items_same v j (s ∷ ss) (n ∷ ns) =
      ap (λ (x : Item). x ∷ items_of t some (stand (after v j s.kind) (suc j) (by_ordinal_from (suc j) ss)) ns) (kind_same (located_now 1 j v s) j n s.kind)
      ∙ ap (λ (xs : List Item). item_by_kind t all (located_now 1 j v s) n s.kind ∷ xs) (items_same (after v j s.kind) (suc j) ss ns)

-- ---- the fault of a source

of_code : (g : StatementFault) (code : ℕ) → code ≡ g.code → g ≡ record { code = code; line = g.line }
of_code g code is = rw is refl

some_alike : (P : ℕ → ℕ → Type 0) (o q : Option StatementFault) (f : StatementFault) → Alike P o q → o ≡ Some f → (line : ℕ) × (q ≡ Some (record { code = f.code; line = line })) × P f.line line
some_alike P None q f alike is = absurd (cc)
some_alike P (Some h) None f alike is = absurd alike
some_alike P (Some h) (Some g) f alike is =
    let same : h ≡ f = cc in (
      g.line,
      ap (λ (x : StatementFault). Some x) (of_code g f.code (sym (ap (λ (x : StatementFault). x.code) same) ∙ alike.0)),
      subst (λ n. P n g.line) (ap (λ (x : StatementFault). x.line) same) alike.1,
    )

none_alike : (P : ℕ → ℕ → Type 0) (o q : Option StatementFault) → Alike P o q → o ≡ None → q ≡ None
none_alike P None None alike is = refl
none_alike P None (Some g) alike is = absurd alike
none_alike P (Some h) q alike is = absurd (cc)

else_alike : (P : ℕ → ℕ → Type 0) (o q a b : Option StatementFault) → Alike P o q → Alike P a b → Alike P (else_fault o a) (else_fault q b)
else_alike P None None a b first second = second
else_alike P None (Some g) a b first second = absurd first
else_alike P (Some f) None a b first second = absurd first
else_alike P (Some f) (Some g) a b first second = first

numbered_count : (k : ℕ) (ss : List Statement) → length (by_ordinal_from k ss) ≡ length ss
numbered_count k [] = refl
numbered_count k (s ∷ ss) = ap suc (numbered_count (suc k) ss)

module _ (P : ℕ → ℕ → Type 0) (ss : List Statement) (few : length ss ≤ most_statements) (each : Each P 1 ss) where
  abbrev t : Tables
  t = tables ss

  abbrev u : Tables
  u = at_start ss

  units : Alike P (first_unit_fault (by_ordinal ss)) (first_unit_fault ss)
  units =
      let few_too : length (by_ordinal ss) ≤ most_statements = subst (λ n. n ≤ most_statements) (sym (numbered_count 1 ss)) few in
      subst (λ o. Alike P o (first_unit_fault ss)) (sym (first_of_few (by_ordinal ss) few_too))
      (subst (λ o. Alike P (first_fault_from (tables (by_ordinal ss)) (at_start (by_ordinal ss)) 1 (by_ordinal ss)) o) (sym (first_of_few ss few))
      (subst (λ x. Alike P (first_fault_from x (at_start (by_ordinal ss)) 1 (by_ordinal ss)) (first_fault_from t u 1 ss)) (sym (tables_same ss))
      (subst (λ x. Alike P (first_fault_from t x 1 (by_ordinal ss)) (first_fault_from t u 1 ss)) (sym (start_same ss))
      (unit_alike P t u 1 ss each))))

  codes : Alike P (code_fault (by_ordinal ss)) (code_fault ss)
  codes =
      subst (λ x. Alike P (code_fault_from x (stand (at_start (by_ordinal ss)) 1 (by_ordinal ss))) (code_fault_from t (stand u 1 ss))) (sym (tables_same ss))
      (subst (λ x. Alike P (code_fault_from t (stand x 1 (by_ordinal ss))) (code_fault_from t (stand u 1 ss))) (sym (start_same ss))
      (code_alike P t u 1 ss each))

  statements : Alike P (statements_fault (by_ordinal ss)) (statements_fault ss)
  statements = else_alike P (first_unit_fault (by_ordinal ss)) (first_unit_fault ss) (code_fault (by_ordinal ss)) (code_fault ss) units codes

  long : (f : StatementFault) → IsTooLong (by_ordinal ss) f → (line : ℕ) × IsTooLong ss (record { code = f.code; line = line }) × P f.line line
  long f h =
      let at_home = sizes_same t u 1 ss h.sizes
      (subst (λ x. AreCodeSizes t (stand x 1 (by_ordinal ss)) h.sizes) (start_same ss)
      (subst (λ x. AreCodeSizes x (stand (at_start (by_ordinal ss)) 1 (by_ordinal ss)) h.sizes) (tables_same ss) h.are_sizes)) in
      let least = subst (λ (items : List Item). IsLeastGood items h.sizes) (items_same t u 1 ss u 1 ss h.sizes)
      (subst (λ x. AreLeast t (stand x 1 (by_ordinal ss)) h.sizes) (start_same ss)
      (subst (λ x. AreLeast x (stand (at_start (by_ordinal ss)) 1 (by_ordinal ss)) h.sizes) (tables_same ss) h.least)) in
      let fault = some_alike P (size_fault_from (λ j. 0) (stand u 1 (by_ordinal ss)) h.sizes) (size_fault_from (λ j. 0) (stand u 1 ss) h.sizes) f
      (size_alike P (λ j. 0) u 1 ss h.sizes each)
      (subst (λ x. size_fault_from (λ j. 0) (stand x 1 (by_ordinal ss)) h.sizes ≡ Some f) (start_same ss) h.fault) in
      (fault.0, record { sizes = h.sizes; are_sizes = at_home; least = least; fault = fault.1 }, fault.2)

pub refused_at : (P : ℕ → ℕ → Type 0) (ss : List Statement) → length ss ≤ most_statements → Each P 1 ss → (f : StatementFault) → IsStatementsFault (by_ordinal ss) f
    → (line : ℕ) × IsStatementsFault ss (record { code = f.code; line = line }) × P f.line line
refused_at P ss few each f (inl is) =
    let found = some_alike P (statements_fault (by_ordinal ss)) (statements_fault ss) f (statements P ss few each) is in
    (found.0, inl found.1, found.2)
refused_at P ss few each f (inr (none, too_long)) =
    let found = long P ss few each f too_long in
    (found.0, inr (none_alike P (statements_fault (by_ordinal ss)) (statements_fault ss) (statements P ss few each) none, found.1), found.2)

-- the statement of the ordinal that is told is the one for which the source is refused
pub refused_for : (ss : List Statement) (code ordinal : ℕ) → length ss ≤ most_statements → IsStatementsFault (by_ordinal ss) (record { code = code; line = ordinal })
    → (line : ℕ) × IsRefusedFor ss code ordinal line
refused_for ss code ordinal few alone =
    let found = refused_at (IsAtLine ss) ss few (λ i n s got is. record { index = i; statement = s; got = got; ordinal_is = is; line_is = refl }) (record { code = code; line = ordinal }) alone in
    (found.0, record { at = found.2; fault = found.1; alone = alone })

-- statements without a fault under their ordinals have none at their own lines
pub sound_at_home : (ss : List Statement) → length ss ≤ most_statements → statements_fault (by_ordinal ss) ≡ None → statements_fault ss ≡ None
sound_at_home ss few is =
    none_alike (IsAtLine ss) (statements_fault (by_ordinal ss)) (statements_fault ss)
    (statements (IsAtLine ss) ss few (λ i n s got at. record { index = i; statement = s; got = got; ordinal_is = at; line_is = refl })) is
