-- A symbol of an object has the address of what its statement means by it.

use Rattle.std.proofs.Common.{◌≡◌, ℕ, ◌+◌, ◌-◌, ◌%◌, ◌<◌, Bool, true, false, List, [], refl, sym, ap, ◌∙◌, subst, arith, Option, Some, None}
use Rattle.std.specs.Prelude.{◌^◌, not, ◌&&◌, ◌==◌, if◌then◌else◌, is_some, unwrap_or, option_map, option_and_then, bytes_eq}
use Rattle.std.specs.List.{AllByRecursion, find, slice_get}
use Rattle.std.specs.Option.{option_or}
use Rattle.rv_list_laws.proofs.FindLemmas.{each_find}
use Rattle.rv_map_laws.specs.Globals.{global_address}
use Rattle.rv_expression_laws.specs.Expression.{Primary, Symbol as Named, Literal, Here, Reference}
use Rattle.rv_expression_laws.specs.Values.{add}
use Rattle.rv_unit_laws.specs.Sections.{Section as SourceSection}
use Rattle.rv_unit_laws.specs.Bindings.{is_weak as is_weak_name}
use Rattle.rv_unit_laws.specs.Tables.{Tables, Definition, definition, gives_way, sure_definition}
use Rattle.rv_map_laws.specs.Map.{Global as MapGlobal}
use Rattle.rv_map_laws.specs.Limits.{IsGlobal}
use Rattle.rv_source_laws.specs.Program.{MaybeMapped, Program, tables_in, chosen, address_at, address_by, home_address, unshown_address, outer_address as outer_address_in}
use Rattle.rv_object_laws.specs.Object.{Section, Symbol, Object}
use Rattle.rv_link_laws.specs.Moves.{alignments_of, moves, plan, new_offset}
use Rattle.rv_link_laws.specs.Inputs.{Starts}
use Rattle.rv_link_laws.specs.Names as objects
use Rattle.rv_link_laws.specs.Names.{Outer, outer_address, is_sure, is_sure_by, symbol_address, defined_address, offset_address}
use Rattle.rv_link_laws.specs.Values.{target}
use Rattle.rv_assemble_laws.specs.LaidStatements.{LaidStatement}
use Rattle.rv_object_laws.specs.Bindings.{is_weak}
use Rattle.rv_assemble_laws.specs.Symbols.{laid_at, after_statement, IsOwn, IsOuter, IsDefinedBy, IsNamed, StandsFor}
use Rattle.rv_assemble_laws.specs.IsObjectOf.{Numbering}
use Rattle.rv_sources_link_theorems.proofs.names.PairLemmas.{AreGiven}
use Rattle.rv_sources_link_theorems.proofs.statements.OrderedLemmas.{its_section}
use Rattle.rv_sources_link_theorems.proofs.statements.StatementsLemmas.{row_address}
use Rattle.rv_sources_link_theorems.proofs.statements.SettledLemmas.{IsSettled}
use Rattle.rv_sources_link_theorems.proofs.moves.ShrunkLemmas.{IsSectionOf, AreSectionsOf}

pub still : (x : Section) → alignments_of x ≡ [] → (base offset : ℕ) → new_offset (moves base x) offset ≡ offset
still x none base offset =
    ap (λ rs. new_offset (plan base 0 rs) offset) none ∙ (let e : offset - 0 ≡ offset = omega arith in e)

-- what symbols of objects mean that these don't surely define
abbrev pub outer_in : Program → List Object → Outer
outer_in p os = outer_address os p.map.globals

-- a file of the sources, with what its statements' addresses are
module _ (statements : List MaybeMapped) (starts : Starts) (file : ℕ) (t : Tables) (laid : List LaidStatement)
    (number : Numbering) (o : Object) (sections : List SourceSection)
    (are : AreSectionsOf t laid number o.symbols 0 sections o.sections) (settled : AllByRecursion (IsSettled sections) laid)
    (plain : (j : ℕ) (x : Section) → slice_get o.sections j ≡ Some x → alignments_of x ≡ [])
    (address : (n : ℕ) → address_at statements file n ≡ option_and_then (row_address starts file) (laid_at laid n)) where
  -- a place of the file
  pub own_agrees : (s : LaidStatement) (d : Definition) → laid_at laid d.ordinal ≡ Some s → s.located.placed ≡ true
      → defined_address (starts file) o (after_statement s d.plus) ≡ home_address statements file d
  own_agrees s d found placed =
      let here = each_find (IsSettled sections) (λ s. s.located.ordinal == d.ordinal) laid settled s found in
      let section = its_section (IsSectionOf t laid number o.symbols) laid s.located.section sections o.sections s.located.home are here.home in
      let x = section.0 in
      let start = starts file s.located.section in
      let same : x.loaded ≡ s.located.home.loaded = section.2.loaded in
      let stays = still x (plain s.located.section x section.1) start (add s.offset d.plus) in
      let left : (start + add s.offset d.plus) % 2 ^ 64 ≡ add (start + s.offset) d.plus = omega arith in
      let given : address_at statements file d.ordinal ≡ row_address starts file s = address d.ordinal ∙ ap (option_and_then (row_address starts file)) found in
      ap (offset_address start (add s.offset d.plus)) section.1
      ∙ ap (λ n. if x.loaded then Some ((start + n) % 2 ^ 64) else None) stays
      ∙ ap (λ n. if x.loaded then Some n else None) left
      ∙ ap (λ b. if b then Some (add (start + s.offset) d.plus) else None) same
      ∙ go s.located.home.loaded (start + s.offset) d.plus
      ∙ ap (λ p. option_map (λ a. add a d.plus) (if p && s.located.home.loaded then Some (start + s.offset) else None)) (sym placed)
      ∙ ap (option_map (λ a. add a d.plus)) (sym given)
    where
      go : (b : Bool) (n plus : ℕ) → (if b then Some (add n plus) else None) ≡ option_map (λ a. add a plus) (if true && b then Some n else None)
      go true n plus = refl
      go false n plus = refl

-- what the names in a file's statements mean, and the symbols that stand for them
module _ (p : Program) (os : List Object) (given : AreGiven p os) (low : AllByRecursion IsGlobal p.map.globals) (starts : Starts) (file : ℕ) (laid : List LaidStatement)
    (number : Numbering) (o : Object) (sections : List SourceSection)
    (are : AreSectionsOf (tables_in p file) laid number o.symbols 0 sections o.sections) (settled : AllByRecursion (IsSettled sections) laid)
    (plain : (j : ℕ) (x : Section) → slice_get o.sections j ≡ Some x → alignments_of x ≡ [])
    (address : (n : ℕ) → address_at p.statements file n ≡ option_and_then (row_address starts file) (laid_at laid n)) where
  abbrev t : Tables
  t = tables_in p file

  abbrev pub meant : ℕ → Primary → Option ℕ
  meant ordinal q = address_by p file q (sure_definition t ordinal q)

  abbrev stands_at : Symbol → Option ℕ
  stands_at x = symbol_address (outer_in p os) (starts file) o x

  -- a name of which the map, or nobody, knows the address
  outer_agrees : (name : List ℕ) (x : Symbol) → x.name ≡ name → is_weak x.binding ≡ gives_way t (Named name)
      → outer_in p os x ≡ outer_address_in p t (Named name)
  outer_agrees name x named weak =
      ap (λ n. option_or (global_address p.map.globals n) (if is_weak x.binding && not (is_some (objects.chosen os n)) then Some 0 else None)) named
      ∙ ap (λ b. option_or (global_address p.map.globals name) (if b && not (is_some (objects.chosen os name)) then Some 0 else None)) weak
      ∙ ap (λ b. option_or (global_address p.map.globals name) (if gives_way t (Named name) && not b then Some 0 else None)) (sym (given name))

  unsure : (x : Symbol) → is_sure x ≡ false → stands_at x ≡ outer_in p os x
  unsure x e = ap (λ b. if b then defined_address (starts file) o x.definition else outer_in p os x) e

  -- a place of the file's own: the name's, or if that is weak what all files say
  own_by : (q : Primary) (x : Symbol) (d : Definition) → IsNamed q x → is_weak x.binding ≡ gives_way t q → IsOwn laid d x → (b : Bool) → gives_way t q ≡ b
      → stands_at x ≡ address_by p file q (if b then None else Some d)
  own_by q x d named weak (s, found, placed, is) false e =
      ap (λ b. if b then defined_address (starts file) o x.definition else outer_in p os x) (ap (is_sure_by x.binding) is ∙ ap not (weak ∙ e))
      ∙ ap (defined_address (starts file) o) is
      ∙ own_agrees p.statements starts file t laid number o sections are settled plain address s d found placed
  own_by (Named name) x d named weak (s, found, placed, is) true e =
      unsure x (ap (is_sure_by x.binding) is ∙ ap not (weak ∙ e)) ∙ outer_agrees name x named weak
  own_by (Literal n) x d named weak is true e = absurd (cc)
  own_by Here x d named weak is true e = absurd (cc)
  own_by (Reference digits forward) x d named weak is true e = absurd (cc)

  none_either : (b : Bool) → ◌≡◌ {A = Option Definition} (if b then None else None) None
  none_either true = refl
  none_either false = refl

  outer_by : (q : Primary) (x : Symbol) → IsNamed q x → is_weak x.binding ≡ gives_way t q → IsOuter q x → stands_at x ≡ address_by p file q None
  outer_by (Named name) x named weak is = unsure x (ap (is_sure_by x.binding) is) ∙ outer_agrees name x named weak
  outer_by (Literal n) x named weak is = absurd is
  outer_by Here x named weak is = absurd is
  outer_by (Reference digits forward) x named weak is = absurd is

  agrees_by : (q : Primary) (d : Option Definition) (x : Symbol) → IsNamed q x → is_weak x.binding ≡ gives_way t q → IsDefinedBy laid q d x
      → stands_at x ≡ address_by p file q (if gives_way t q then None else d)
  agrees_by q (Some d) x named weak is =
      own_by q x d named weak is (gives_way t q) refl
  agrees_by q None x named weak is =
      outer_by q x named weak is ∙ ap (address_by p file q) (sym (none_either (gives_way t q)))

  -- the address of a symbol is a number below 2 ^ 64
  own_low : (d : Definition) (n : ℕ) → home_address p.statements file d ≡ Some n → n < 2 ^ 64
  own_low d n e = go (address_at p.statements file d.ordinal) e
    where
      go : (a : Option ℕ) → option_map (λ a. add a d.plus) a ≡ Some n → n < 2 ^ 64
      go None f = absurd (cc)
      go (Some a) f = let same : add a d.plus ≡ n = cc in subst (λ m. m < 2 ^ 64) same (let l : add a d.plus < 2 ^ 64 = omega arith in l)

  zero_low : (b : Bool) (n : ℕ) → (if b then Some 0 else None) ≡ Some n → n < 2 ^ 64
  zero_low true n e = let same : 0 ≡ n = cc in subst (λ m. m < 2 ^ 64) same (let l : 0 < 2 ^ 64 = omega arith in l)
  zero_low false n e = absurd (cc)

  outer_low : (q : Primary) (n : ℕ) → outer_address_in p t q ≡ Some n → n < 2 ^ 64
  outer_low (Named name) n e = go (find (λ g. bytes_eq g.name name) p.map.globals) refl e
    where
      go : (o : Option MapGlobal) → find (λ g. bytes_eq g.name name) p.map.globals ≡ o
          → option_or (option_map (λ g. g.address) o) (unshown_address p t name) ≡ Some n → n < 2 ^ 64
      go None f e = zero_low (is_weak_name (t.bindings name) && not (is_some (chosen p name))) n e
      go (Some g) f e =
          let same : g.address ≡ n = cc in
          subst (λ m. m < 2 ^ 64) same (each_find IsGlobal (λ g. bytes_eq g.name name) p.map.globals low g f).1
  outer_low (Literal k) n e = absurd (cc)
  outer_low Here n e = absurd (cc)
  outer_low (Reference digits forward) n e = absurd (cc)

  low_by : (q : Primary) (d : Option Definition) (n : ℕ) → address_by p file q d ≡ Some n → n < 2 ^ 64
  low_by q (Some d) n e = own_low d n e
  low_by q None n e = outer_low q n e

  -- what a statement means by a name is the address of the symbol that stands for it
  pub record IsMeant (ordinal : ℕ) (q : Primary) : Type 0 where
    pub at : ℕ
    pub is : meant ordinal q ≡ Some at
    pub worth : unwrap_or (target (outer_in p os) (starts file) o (Some (number ordinal q))) 0 ≡ at
    pub below : at < 2 ^ 64

  pub meant_of : (ordinal : ℕ) (q : Primary) → StandsFor t laid ordinal q (slice_get o.symbols (number ordinal q))
      → is_some (target (outer_in p os) (starts file) o (Some (number ordinal q))) ≡ true → IsMeant ordinal q
  meant_of ordinal q stands some = go (slice_get o.symbols (number ordinal q)) refl stands some
    where
      with_address : (a : Option ℕ) → meant ordinal q ≡ a → target (outer_in p os) (starts file) o (Some (number ordinal q)) ≡ a → is_some a ≡ true → IsMeant ordinal q
      with_address None e f g = absurd (cc)
      with_address (Some n) e f g = record { at = n; is = e; worth = ap (λ o. unwrap_or o 0) f; below = low_by q (sure_definition t ordinal q) n e }

      go : (x : Option Symbol) → slice_get o.symbols (number ordinal q) ≡ x → StandsFor t laid ordinal q x → is_some (option_and_then stands_at x) ≡ true → IsMeant ordinal q
      go None there h some = absurd h
      go (Some x) there (named, weak, is) some =
          let agrees = agrees_by q (definition t ordinal q) x named weak is in
          with_address (meant ordinal q) refl (ap (option_and_then stands_at) there ∙ agrees) (ap is_some (sym agrees) ∙ some)
