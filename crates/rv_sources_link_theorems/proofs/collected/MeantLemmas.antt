-- What relocations name stands in the section of what their statements mean.

use Rattle.std.proofs.Common.{◌≡◌, ℕ, suc, Bool, true, false, List, [], ◌∷◌, refl, ap, sym, ◌∙◌, Option, Some, None}
use Rattle.std.specs.Prelude.{not, if◌then◌else◌, option_map, option_and_then}
use Rattle.std.specs.List.{AllByRecursion}
use Rattle.rv_map_laws.specs.declared.map.SectionId.{SectionId}
use Rattle.rv_expression_laws.specs.Expression.{Primary, Symbol as Named, Literal, Here, Reference}
use Rattle.rv_expression_laws.specs.Values.{Meaning, Known, InSection as InData, Open as OpenAddress, Refused}
use Rattle.rv_statement_laws.specs.Statement.{StatementKind, Label, Numbered, Instruction, Directs, Statement, Enters, Sets}
use Rattle.rv_unit_laws.specs.Tables.{Tables, Assignment, Definition, tables, at_start, definition, gives_way, sure_definition, assigned_ever}
use Rattle.rv_source_laws.specs.Exports.{defined_name}
use Rattle.rv_source_laws.specs.Program as source
use Rattle.rv_source_laws.specs.Program.{Program, chosen}
use Rattle.rv_source_laws.specs.Shortened.{Aim, aim, assigned_aim, defined_aim, export_aim, shared_aim, aim_by}
use Rattle.rv_source_laws.specs.Collected.{home_at}
use Rattle.rv_object_laws.specs.Object.{Symbol, Object}
use Rattle.rv_object_laws.specs.Bindings.{is_weak}
use Rattle.rv_link_laws.specs.Names as objects
use Rattle.rv_link_laws.specs.Names.{Place, is_sure, is_sure_by, place_in, shared_place, symbol_place}
use Rattle.rv_assemble_laws.specs.LaidStatements.{LaidStatement}
use Rattle.rv_assemble_laws.specs.Symbols.{laid_at, after_found, assigned_definition, statement_definition, IsNamed, IsOwn, IsOuter, IsDefinedBy, StandsFor}
use Rattle.rv_assemble_laws.specs.IsObjectOf.{IsObjectOf}
use Rattle.rv_sources_link_theorems.proofs.collected.HereLemmas.{seen, laid_home, IsHere}
use Rattle.rv_sources_link_theorems.proofs.names.PairLemmas.{IsAlike, IsPair}
use Rattle.rv_sources_link_theorems.proofs.statements.CodeOfLemmas.{IsFound, found_from}
use Rattle.rv_sources_link_theorems.proofs.statements.StatementsLemmas.{renumbered}

-- the section of a place
abbrev pub place_home : Option Place → Option SectionId
place_home p = option_map (λ p. record { file = p.file; section = suc p.section }) p

-- each statement of a source is the first of its ordinal
abbrev pub IsFirst : List LaidStatement → LaidStatement → Type 0
IsFirst laid z = laid_at laid z.located.ordinal ≡ Some z

first_each : (laid zs : List LaidStatement) → AllByRecursion (IsFound 1 laid) zs → AllByRecursion (IsFirst laid) zs
first_each laid [] h = tt
first_each laid (z ∷ zs) (h, hs) = (h.1, first_each laid zs hs)

pub firsts : (ss : List Statement) (o : Object) (is : IsObjectOf ss o) → AllByRecursion (IsFirst is.laid) is.laid
firsts ss o is = first_each is.laid is.laid (found_from 1 (at_start ss) ss is.laid is.located)

module _ (p : Program) where
  abbrev home_to : Aim → Option SectionId
  home_to a = home_at p.statements a

  -- a definition of the sources and that of the objects stand in the same section, or in none
  abbrev pub HomesAlike : source.Export → objects.Export → Type 0
  HomesAlike x e = option_and_then home_to (export_aim p x) ≡ place_home (place_in e.file e.symbol.definition)

  -- ---- the definitions of a file

  module _ (f : ℕ) (ss : List Statement) (o : Object) (is : IsObjectOf ss o) (here : IsHere p f ss o is) where
    abbrev t : Tables
    t = tables ss

    at_statement : (n : ℕ) (z : LaidStatement) → laid_at is.laid n ≡ Some z → Some (laid_home f z) ≡ home_to (aim f n)
    at_statement n z e = sym (here.found n ∙ ap (option_map (laid_home f)) e)

    nowhere : (n : ℕ) → laid_at is.laid n ≡ None → None ≡ home_to (aim f n)
    nowhere n e = sym (here.found n ∙ ap (option_map (laid_home f)) e)

    found_place : (a : Assignment) (y : Option LaidStatement) → laid_at is.laid a.ordinal ≡ y → place_home (place_in f (after_found y a.plus)) ≡ home_to (aim f a.ordinal)
    found_place a None e = nowhere a.ordinal e
    found_place a (Some z) e = at_statement a.ordinal z e

    assigned_place : (a : Option Assignment) → place_home (place_in f (assigned_definition is.laid a)) ≡ option_and_then home_to (assigned_aim f a)
    assigned_place None = refl
    assigned_place (Some a) = go a.meaning
      where
        go : (m : Meaning) → place_home (place_in f (assigned_definition is.laid (Some (record a { meaning = m })))) ≡ option_and_then home_to (assigned_aim f (Some (record a { meaning = m })))
        go (Known n) = refl
        go (InData section offset) = found_place (record a { meaning = InData section offset }) (laid_at is.laid a.ordinal) refl
        go OpenAddress = refl
        go (Refused code) = refl

    aim_kind : (z : LaidStatement) (kind : StatementKind) (name : List ℕ) → IsFirst is.laid z → defined_name t z.located.ordinal kind ≡ name ∷ []
        → option_and_then home_to (defined_aim t (renumbered f z.located) kind) ≡ place_home (place_in f (statement_definition t is.laid z kind))
    aim_kind z (Label n) name itself e = sym (at_statement z.located.ordinal z itself)
    aim_kind z (Directs (Sets n x)) name itself e = sym (assigned_place (assigned_ever t.assignments n))
    aim_kind z (Numbered digits) name itself e = absurd (cc)
    aim_kind z (Instruction m ops) name itself e = absurd (cc)
    aim_kind z (Directs (Enters section)) name itself e = absurd (cc)
    aim_kind z (Directs _) name itself e = absurd (cc)

    abbrev Alike : LaidStatement → Type 0
    Alike z = IsPair HomesAlike (tables ss) is.laid (seen f) f o z

    alike_from : (zs : List LaidStatement) → AllByRecursion (IsFirst is.laid) zs → AllByRecursion Alike zs
    alike_from [] u = tt
    alike_from (z ∷ zs) (u, us) = (
      (λ name index e shared. ap (λ t. option_and_then home_to (defined_aim t (renumbered f z.located) z.located.kind)) here.tables_are ∙ aim_kind z z.located.kind name u e),
      alike_from zs us,
    )

    pub homes_alike : AllByRecursion Alike is.laid
    homes_alike = alike_from is.laid (firsts ss o is)

  -- ---- what a statement means by a name

  module _ (os : List Object) (alike : (name : List ℕ) → IsAlike HomesAlike (chosen p name) (objects.chosen os name)) where
    shared_is : (name : List ℕ) → place_home (shared_place os name) ≡ option_and_then home_to (shared_aim p (Named name))
    shared_is name = go (chosen p name) (objects.chosen os name) (alike name)
      where
        go : (x : Option source.Export) (e : Option objects.Export) → IsAlike HomesAlike x e
            → place_home (option_and_then (λ (e : objects.Export). place_in e.file e.symbol.definition) e) ≡ option_and_then home_to (option_and_then (export_aim p) x)
        go None None h = refl
        go None (Some e) h = absurd h
        go (Some x) None h = absurd h
        go (Some x) (Some e) h = sym h

    module _ (f : ℕ) (ss : List Statement) (o : Object) (is : IsObjectOf ss o) (here : IsHere p f ss o is) where
      abbrev stands_at : Symbol → Option SectionId
      stands_at x = place_home (symbol_place os f x)

      unsure : (n : List ℕ) (x : Symbol) → x.name ≡ n → is_sure x ≡ false → stands_at x ≡ option_and_then home_to (shared_aim p (Named n))
      unsure n x named e = ap (λ b. place_home (if b then place_in f x.definition else shared_place os x.name)) e ∙ ap (λ m. place_home (shared_place os m)) named ∙ shared_is n

      outer_is : (name : Primary) (x : Symbol) → IsNamed name x → IsOuter name x → stands_at x ≡ option_and_then home_to (shared_aim p name)
      outer_is (Named n) x named none = unsure n x named (ap (is_sure_by x.binding) none)
      outer_is (Literal n) x named none = absurd none
      outer_is Here x named none = absurd none
      outer_is (Reference digits forward) x named none = absurd none

      own_is : (d : Definition) (x : Symbol) → IsOwn is.laid d x → is_weak x.binding ≡ false → stands_at x ≡ home_to (aim f d.ordinal)
      own_is d x (z, found, placed, there) strong =
          ap (λ b. place_home (if b then place_in f x.definition else shared_place os x.name)) (ap (is_sure_by x.binding) there ∙ ap not strong)
          ∙ ap (λ d. place_home (place_in f d)) there
          ∙ at_statement f ss o is here d.ordinal z found

      abbrev aimed_at : Primary → Option Definition → Option SectionId
      aimed_at name d = option_and_then home_to (aim_by p f name d)

      -- a place of the file's own: the name's, or if that is weak what all files say
      own_by : (name : Primary) (d : Definition) (x : Symbol) → IsNamed name x → IsOwn is.laid d x
          → is_weak x.binding ≡ gives_way (tables ss) name → (b : Bool) → gives_way (tables ss) name ≡ b → stands_at x ≡ aimed_at name (if b then None else Some d)
      own_by name d x named own weak false g = own_is d x own (weak ∙ g)
      own_by (Named n) d x named (z, found, placed, there) weak true g = unsure n x named (ap (is_sure_by x.binding) there ∙ ap not (weak ∙ g))
      own_by (Literal n) d x named own weak true g = absurd (cc)
      own_by Here d x named own weak true g = absurd (cc)
      own_by (Reference digits forward) d x named own weak true g = absurd (cc)

      none_either : (b : Bool) → ◌≡◌ {A = Option Definition} None (if b then None else None)
      none_either true = refl
      none_either false = refl

      pub meant : (n : ℕ) (name : Primary) (y : Option Symbol) → StandsFor (tables ss) is.laid n name y
          → place_home (option_and_then (symbol_place os f) y) ≡ aimed_at name (sure_definition (tables ss) n name)
      meant n name None s = absurd s
      meant n name (Some x) (named, weak, s) = go (definition (tables ss) n name) s
        where
          go : (d : Option Definition) → IsDefinedBy is.laid name d x → stands_at x ≡ aimed_at name (if gives_way (tables ss) name then None else d)
          go (Some d) s = own_by name d x named s weak (gives_way (tables ss) name) refl
          go None s = outer_is name x named s ∙ ap (aimed_at name) (none_either (gives_way (tables ss) name))
