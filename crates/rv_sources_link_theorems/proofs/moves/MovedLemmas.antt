-- The symbols of an object of a source when the bytes of its sections move: what they stand for moves with its statement.

use Rattle.std.proofs.Common.{◌≡◌, ℕ, ◌-◌, ◌≤◌, Bool, true, false, List, [], ◌∷◌, ◌++◌, map, refl, sym, ap, ◌∙◌, subst, arith, Option, Some, None, option_map, ◌⊎◌, inl, inr}
use Rattle.std.proofs.lemmas.List.{map-append}
use Rattle.std.specs.Prelude.{◌&&◌, ◌==◌, if◌then◌else◌, filter, flat_map, bytes_eq, nat_lt}
use Rattle.std.specs.List.{AllByRecursion, slice_get}
use Rattle.rv_list_laws.proofs.FindLemmas.{each_find}
use Rattle.std.proofs.lemmas.Option.{slice_get-map}
use Rattle.rv_list_laws.proofs.EachLemmas.{each_map}
use Rattle.rv_expression_laws.specs.Bytes.{digits_value}
use Rattle.rv_expression_laws.specs.Expression.{Primary, Symbol as Named, Literal, Here, Reference}
use Rattle.rv_expression_laws.specs.Values.{Meaning, Known, InSection as InData, Open as OpenAddress, Refused, add}
use Rattle.rv_statement_laws.specs.Statement.{StatementKind, Label, Numbered, Instruction, Directs, Enters, Sets}
use Rattle.rv_unit_laws.specs.Tables.{Tables, NumericLabel, Labelled, Assignment, Definition, definition, definition_at, is_location, assigned_before, assigned_ever, assigned_definition as defined_by, labelled_definition, first_definition, numeric_definition, label_of, numeric_label_before, numeric_label_after, longest_section}
use Rattle.rv_unit_laws.specs.Bindings.{is_shared as is_shared_name}
use Rattle.rv_source_laws.specs.Exports.{names_where}
use Rattle.rv_object_laws.specs.declared.symbol.Definition.{Definition as Defined}
use Rattle.rv_object_laws.specs.declared.symbol.Definition.TheVariants.{Undefined, Absolute, InSection, Skipped}
use Rattle.rv_object_laws.specs.Object.{Symbol}
use Rattle.rv_link_laws.specs.Moves.{Move, dropped, new_offset}
use Rattle.rv_object_laws.specs.Bindings.{is_shared}
use Rattle.rv_link_laws.specs.Names.{is_defined}
use Rattle.rv_assemble_laws.specs.LaidStatements.{LaidStatement, LaidPart}
use Rattle.rv_assemble_laws.specs.Symbols.{SymbolUse, references_in, laid_at, after_found, assigned_definition, statement_definition, shared_symbol, exports_of, IsNamed, IsOwn, IsOuter, IsDefinedBy, StandsFor}
use Rattle.rv_assemble_laws.specs.IsObjectOf.{Numbering, IsNumbered, IsInData, StandsInData}
use Rattle.rv_sources_link_theorems.proofs.names.ExportedLemmas.{is_exported}

-- what holds of the statements of code: none stands beyond the longest section
abbrev pub IsBound : LaidStatement → Type 0
IsBound z = z.located.home.executable ≡ true → z.offset ≤ longest_section

module _ (t : Tables) (laid : List LaidStatement) (places : AllByRecursion (StandsInData laid) t.assignments) where
  -- a definition adds bytes in data alone
  abbrev pub AddsInData : Definition → Type 0
  AddsInData d = (d.plus ≡ 0) ⊎ ((z : LaidStatement) → laid_at laid d.ordinal ≡ Some z → z.located.home.executable ≡ false)

  aside_found : (n : ℕ) → IsInData (laid_at laid n) → (z : LaidStatement) → laid_at laid n ≡ Some z → z.located.home.executable ≡ false
  aside_found n h z e = (subst IsInData e h).0

  of_assignment : (a : Option Assignment) → ((b : Assignment) → a ≡ Some b → StandsInData laid b) → (d : Definition) → defined_by a ≡ Some d → AddsInData d
  of_assignment None h d e = absurd (cc)
  of_assignment (Some a) h d e = go (is_location a) refl e
    where
      go : (b : Bool) → is_location a ≡ b → (if b then Some (record { ordinal = a.ordinal; plus = a.plus }) else None) ≡ Some d → AddsInData d
      go true l e =
          let same : ◌≡◌ {A = Definition} (record { ordinal = a.ordinal; plus = a.plus }) d = cc in
          subst AddsInData same (inr (aside_found a.ordinal (h a refl l)))
      go false l e = absurd (cc)

  stood : (d : Definition) (n : ℕ) → ◌≡◌ {A = Option Definition} (Some (definition_at n)) (Some d) → AddsInData d
  stood d n e = let same : definition_at n ≡ d = cc in inl (ap (λ (d : Definition). d.plus) (sym same))

  of_numeric : (m : Option NumericLabel) (d : Definition) → numeric_definition m ≡ Some d → AddsInData d
  of_numeric None d e = absurd (cc)
  of_numeric (Some m) d e = stood d m.ordinal e

  pub adds : (ordinal : ℕ) (q : Primary) (d : Definition) → definition t ordinal q ≡ Some d → AddsInData d
  adds ordinal (Literal n) d e = absurd (cc)
  adds ordinal Here d e = stood d ordinal e
  adds ordinal (Reference digits true) d e = of_numeric (numeric_label_after t.numeric_labels ordinal (digits_value 10 digits)) d e
  adds ordinal (Reference digits false) d e = of_numeric (numeric_label_before t.numeric_labels ordinal (digits_value 10 digits)) d e
  adds ordinal (Named name) d e = first (defined_by before) refl e
    where
      before : Option Assignment
      before = assigned_before t.assignments ordinal name

      ever : Option Assignment
      ever = assigned_ever t.assignments name

      second : (l : Option Labelled) → labelled_definition l (defined_by ever) ≡ Some d → AddsInData d
      second None e = of_assignment ever (λ a k. each_find (StandsInData laid) (λ s. bytes_eq s.name name) t.assignments places a k) d e
      second (Some l) e = stood d l.ordinal e

      first : (x : Option Definition) → defined_by before ≡ x → first_definition x (labelled_definition (label_of t.labels true ordinal name) (defined_by ever)) ≡ Some d → AddsInData d
      first None k e = second (label_of t.labels true ordinal name) e
      first (Some c) k e = of_assignment before (λ a k. each_find (StandsInData laid) (λ s. nat_lt s.ordinal ordinal && bytes_eq s.name name) t.assignments places a k) d (k ∙ e)

module _ (t : Tables) (laid : List LaidStatement) (places : AllByRecursion (StandsInData laid) t.assignments) (bounds : AllByRecursion IsBound laid)
    (moves : ℕ → List Move) (still : AllByRecursion (λ z. z.located.home.executable ≡ false → moves z.located.section ≡ []) laid)
    (mv : LaidStatement → LaidStatement) (stays : (z : LaidStatement) → (mv z).located ≡ z.located) (goes : (z : LaidStatement) → (mv z).offset ≡ new_offset (moves z.located.section) z.offset)
    (def : Defined → Defined) (undefined : def Undefined ≡ Undefined) (absolute : (n : ℕ) → def (Absolute n) ≡ Absolute n) (skipped : (n : ℕ) → def (Skipped n) ≡ Skipped n)
    (placed : (section offset : ℕ) → def (InSection section offset) ≡ InSection section (new_offset (moves section) offset)) where
  abbrev moved_symbol : Symbol → Symbol
  moved_symbol x = record { name = x.name; binding = x.binding; definition = def x.definition }

  abbrev laid' : List LaidStatement
  laid' = map mv laid

  -- ---- exported symbols are exported

  defined_still : (d : Defined) → is_defined (def d) ≡ is_defined d
  defined_still Undefined = ap is_defined undefined
  defined_still (Absolute n) = ap is_defined (absolute n)
  defined_still (InSection section offset) = ap is_defined (placed section offset)
  defined_still (Skipped n) = ap is_defined (skipped n)

  pub exported_moved : (xs : List Symbol) → filter is_exported (map moved_symbol xs) ≡ map moved_symbol (filter is_exported xs)
  exported_moved [] = refl
  exported_moved (x ∷ xs) = go (is_exported x) (is_exported (moved_symbol x)) same (exported_moved xs)
    where
      same : is_exported (moved_symbol x) ≡ is_exported x
      same = ap (λ b. is_shared x.binding && b) (defined_still x.definition)

      go : (b c : Bool) → c ≡ b → filter is_exported (map moved_symbol xs) ≡ map moved_symbol (filter is_exported xs)
          → (if c then moved_symbol x ∷ filter is_exported (map moved_symbol xs) else filter is_exported (map moved_symbol xs))
          ≡ map moved_symbol (if b then x ∷ filter is_exported xs else filter is_exported xs)
      go true true e ih = ap (λ (l : List Symbol). moved_symbol x ∷ l) ih
      go false false e ih = ih
      go true false e ih = absurd (cc)
      go false true e ih = absurd (cc)

  -- ---- statements

  pub statement_same : (n : ℕ) → laid_at laid' n ≡ option_map mv (laid_at laid n)
  statement_same n = go laid
    where
      go : (zs : List LaidStatement) → laid_at (map mv zs) n ≡ option_map mv (laid_at zs n)
      go [] = refl
      go (z ∷ zs) = ap (λ l. if l.ordinal == n then Some (mv z) else laid_at (map mv zs) n) (stays z) ∙ by (z.located.ordinal == n) (go zs)
        where
          by : (b : Bool) → laid_at (map mv zs) n ≡ option_map mv (laid_at zs n) → (if b then Some (mv z) else laid_at (map mv zs) n) ≡ option_map mv (if b then Some z else laid_at zs n)
          by true ih = refl
          by false ih = ih

  still_at : (n : ℕ) (z : LaidStatement) → laid_at laid n ≡ Some z → z.located.home.executable ≡ false → moves z.located.section ≡ []
  still_at n z e = each_find (λ z. z.located.home.executable ≡ false → moves z.located.section ≡ []) (λ z. z.located.ordinal == n) laid still z e

  bound_at : (n : ℕ) (z : LaidStatement) → laid_at laid n ≡ Some z → IsBound z
  bound_at n z e = each_find IsBound (λ z. z.located.ordinal == n) laid bounds z e

  -- a place after a statement moves with the statement
  place_moves : (z : LaidStatement) (plus : ℕ) → (z.located.home.executable ≡ false → moves z.located.section ≡ []) → IsBound z → (plus ≡ 0) ⊎ (z.located.home.executable ≡ false)
      → new_offset (moves z.located.section) (add z.offset plus) ≡ add (new_offset (moves z.located.section) z.offset) plus
  place_moves z plus none bound h = go z.located.home.executable refl h
    where
      aside : z.located.home.executable ≡ false → new_offset (moves z.located.section) (add z.offset plus) ≡ add (new_offset (moves z.located.section) z.offset) plus
      aside e =
          subst (λ ms. new_offset ms (add z.offset plus) ≡ add (new_offset ms z.offset) plus) (sym (none e))
          ((let n = add z.offset plus in let a : n - 0 ≡ n = omega arith in a) ∙ ap (λ n. add n plus) (let b : z.offset ≡ z.offset - 0 = omega arith in b))

      here : z.located.home.executable ≡ true → plus ≡ 0 → new_offset (moves z.located.section) (add z.offset plus) ≡ add (new_offset (moves z.located.section) z.offset) plus
      here e zero_plus =
          let ms = moves z.located.section in
          let low : z.offset ≤ 268435456 = bound e in
          let lost = dropped ms z.offset in
          let new = new_offset ms z.offset in
          let less : new ≤ z.offset = (let a : z.offset - lost ≤ z.offset = omega arith in a) in
          ap (λ n. new_offset ms (add z.offset n)) zero_plus ∙ ap (new_offset ms) (let a : add z.offset 0 ≡ z.offset = omega (arith, low) in a)
          ∙ (let a : new ≡ add new 0 = omega (arith, low, less) in a) ∙ ap (add new) (sym zero_plus)

      go : (b : Bool) → z.located.home.executable ≡ b → (plus ≡ 0) ⊎ (z.located.home.executable ≡ false)
          → new_offset (moves z.located.section) (add z.offset plus) ≡ add (new_offset (moves z.located.section) z.offset) plus
      go false e k = aside e
      go true e (inl k) = here e k
      go true e (inr k) = aside k

  after_moves : (z : LaidStatement) (plus : ℕ) → (z.located.home.executable ≡ false → moves z.located.section ≡ []) → IsBound z → (plus ≡ 0) ⊎ (z.located.home.executable ≡ false)
      → def (InSection z.located.section (add z.offset plus)) ≡ InSection (mv z).located.section (add (mv z).offset plus)
  after_moves z plus none bound h =
      placed z.located.section (add z.offset plus) ∙ ap (InSection z.located.section) (place_moves z plus none bound h ∙ ap (λ n. add n plus) (sym (goes z)))
      ∙ ap (λ l. InSection l.section (add (mv z).offset plus)) (sym (stays z))

  -- ---- symbols

  own_moves : (d : Definition) (x : Symbol) → AddsInData t laid places d → IsOwn laid d x → IsOwn laid' d (moved_symbol x)
  own_moves d x h (z, found, is_placed, at) = (
    mv z,
    statement_same d.ordinal ∙ ap (option_map mv) found,
    ap (λ l. l.placed) (stays z) ∙ is_placed,
    ap def at ∙ after_moves z d.plus (still_at d.ordinal z found) (bound_at d.ordinal z found) (go h),
  )
    where
      go : AddsInData t laid places d → (d.plus ≡ 0) ⊎ (z.located.home.executable ≡ false)
      go (inl e) = inl e
      go (inr k) = inr (k z found)

  named_same : (q : Primary) (x : Symbol) → IsNamed q x → IsNamed q (moved_symbol x)
  named_same (Named name) x h = h
  named_same (Literal n) x h = h
  named_same Here x h = h
  named_same (Reference digits forward) x h = h

  outer_same : (q : Primary) (x : Symbol) → IsOuter q x → IsOuter q (moved_symbol x)
  outer_same (Named name) x h = ap def h ∙ undefined
  outer_same (Literal n) x h = h
  outer_same Here x h = h
  outer_same (Reference digits forward) x h = h

  defined_same : (q : Primary) (d : Option Definition) (x : Symbol) → ((c : Definition) → d ≡ Some c → AddsInData t laid places c) → IsDefinedBy laid q d x → IsDefinedBy laid' q d (moved_symbol x)
  defined_same q (Some d) x h k = own_moves d x (h d refl) k
  defined_same q None x h k = outer_same q x k

  stands_same : (ordinal : ℕ) (q : Primary) (x : Option Symbol) → StandsFor t laid ordinal q x → StandsFor t laid' ordinal q (option_map moved_symbol x)
  stands_same ordinal q None h = h
  stands_same ordinal q (Some x) (named, weak, h) = (named_same q x named, weak, defined_same q (definition t ordinal q) x (adds t laid places ordinal q) h)

  pub uses_same : (number : Numbering) (symbols : List Symbol) (p : LaidPart)
      → AllByRecursion (IsNumbered t laid number symbols) (references_in p) → AllByRecursion (IsNumbered t laid' number (map moved_symbol symbols)) (references_in p)
  uses_same number symbols p h = each_map (IsNumbered t laid number symbols) (IsNumbered t laid' number (map moved_symbol symbols)) (references_in p) use_same h
    where
      use_same : (r : SymbolUse) → IsNumbered t laid number symbols r → IsNumbered t laid' number (map moved_symbol symbols) r
      use_same r h =
          let n = number r.ordinal r.symbol in
          subst (λ x. StandsFor t laid' r.ordinal r.symbol x) (sym (slice_get-map moved_symbol symbols n)) (stands_same r.ordinal r.symbol (slice_get symbols n) h)

  -- ---- exported symbols

  found_moves : (a : Assignment) → StandsInData laid a → is_location a ≡ true → def (after_found (laid_at laid a.ordinal) a.plus) ≡ after_found (laid_at laid' a.ordinal) a.plus
  found_moves a h l = go (laid_at laid a.ordinal) refl (h l) ∙ ap (λ y. after_found y a.plus) (sym (statement_same a.ordinal))
    where
      go : (y : Option LaidStatement) → laid_at laid a.ordinal ≡ y → IsInData y → def (after_found y a.plus) ≡ after_found (option_map mv y) a.plus
      go None e k = skipped 0
      go (Some z) e k = after_moves z a.plus (still_at a.ordinal z e) (bound_at a.ordinal z e) (inr k.0)

  assigned_moves : (a : Option Assignment) → ((b : Assignment) → a ≡ Some b → StandsInData laid b) → def (assigned_definition laid a) ≡ assigned_definition laid' a
  assigned_moves None h = skipped 0
  assigned_moves (Some a) h = go a.meaning (h a refl)
    where
      go : (m : Meaning) → StandsInData laid (record a { meaning = m })
          → def (assigned_definition laid (Some (record a { meaning = m }))) ≡ assigned_definition laid' (Some (record a { meaning = m }))
      go (Known n) k = absolute n
      go (InData section offset) k = found_moves (record a { meaning = InData section offset }) k refl
      go OpenAddress k = skipped 0
      go (Refused code) k = skipped 0

  here_moves : (z : LaidStatement) → def (InSection z.located.section z.offset) ≡ InSection (mv z).located.section (mv z).offset
  here_moves z = placed z.located.section z.offset ∙ ap (InSection z.located.section) (sym (goes z)) ∙ ap (λ l. InSection l.section (mv z).offset) (sym (stays z))

  definition_moves : (z : LaidStatement) (kind : StatementKind) → def (statement_definition t laid z kind) ≡ statement_definition t laid' (mv z) kind
  definition_moves z (Label name) = here_moves z
  definition_moves z (Numbered number) = here_moves z
  definition_moves z (Instruction m os) = here_moves z
  definition_moves z (Directs (Sets name e)) =
      assigned_moves (assigned_ever t.assignments name) (λ a k. each_find (StandsInData laid) (λ s. bytes_eq s.name name) t.assignments places a k)
  definition_moves z (Directs (Enters section)) = here_moves z
  definition_moves z (Directs _) = here_moves z

  named_moves : (d d' : Defined) → def d ≡ d' → (names : List (List ℕ)) → map moved_symbol (map (λ name. shared_symbol t name d) names) ≡ map (λ name. shared_symbol t name d') names
  named_moves d d' e [] = refl
  named_moves d d' e (name ∷ names) =
      ap (λ x. shared_symbol t name x ∷ map moved_symbol (map (λ name. shared_symbol t name d) names)) e ∙ ap (λ (l : List Symbol). shared_symbol t name d' ∷ l) (named_moves d d' e names)

  pub exports_move : (zs : List LaidStatement) → map moved_symbol (flat_map (exports_of t laid) zs) ≡ flat_map (exports_of t laid') (map mv zs)
  exports_move [] = refl
  exports_move (z ∷ zs) =
      map-append moved_symbol (exports_of t laid z) (flat_map (exports_of t laid) zs)
      ∙ ap (λ l. l ++ map moved_symbol (flat_map (exports_of t laid) zs))
      (named_moves (statement_definition t laid z z.located.kind) (statement_definition t laid' (mv z) z.located.kind) (definition_moves z z.located.kind) (names_where is_shared_name t z.located))
      ∙ ap (λ l. map (λ name. shared_symbol t name (statement_definition t laid' (mv z) l.kind)) (names_where is_shared_name t l) ++ map moved_symbol (flat_map (exports_of t laid) zs)) (sym (stays z))
      ∙ ap (λ l. exports_of t laid' (mv z) ++ l) (exports_move zs)

  -- ---- the whole

  pub located_same : (zs : List LaidStatement) → map (λ (z : LaidStatement). z.located) (map mv zs) ≡ map (λ (z : LaidStatement). z.located) zs
  located_same [] = refl
  located_same (z ∷ zs) = ap (λ l. l ∷ map (λ (z : LaidStatement). z.located) (map mv zs)) (stays z) ∙ ap (λ l. z.located ∷ l) (located_same zs)

  pub places_same : (as' : List Assignment) → AllByRecursion (StandsInData laid) as' → AllByRecursion (StandsInData laid') as'
  places_same as' h = each_map (StandsInData laid) (StandsInData laid') as' (λ a k l. subst IsInData (sym (statement_same a.ordinal)) (go (laid_at laid a.ordinal) (k l))) h
    where
      go : (y : Option LaidStatement) → IsInData y → IsInData (option_map mv y)
      go None k = tt
      go (Some z) k = subst (λ l. (l.home.executable ≡ false) × (l.placed ≡ true)) (sym (stays z)) k
