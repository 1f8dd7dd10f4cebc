-- The numbers of names in a statement agree with what they mean, so its values are plain arithmetic.

use Rattle.std.proofs.Common.{◌≡◌, ℕ, zero, suc, ◌+◌, ◌^◌, ◌<◌, Bool, true, false, cond, ◌&&◌, ◌||◌, ◌==◌, not, List, [], ◌∷◌, Option, Some, None, option_map, IfSome, IsSome, refl, sym, ◌∙◌, ap, arith, subst}
use Rattle.std.specs.Prelude.{if◌then◌else◌, bytes_eq, is_some, nat_lt, reverse, option_and_then, slice_get}
use Rattle.std.specs.List.{find, AllByRecursion}
use Rattle.std.specs.Option.{option_or}
use Rattle.std.proofs.lemmas.Bool.{and_parts}
use Rattle.rv_list_laws.proofs.FindLemmas.{each_find}
use Rattle.rv_list_laws.proofs.EachLemmas.{each_reversed, each_get}
use Rattle.rv_expression_laws.specs.Bytes.{digits_value}
use Rattle.rv_expression_laws.specs.Expression.{Primary, Literal, Symbol, Here, Reference, Tree, Leaf, Unary, Paren, Binary}
use Rattle.rv_expression_laws.specs.Values.{Meaning, Known, InSection, Open, Refused, Value, Constant, Symbolic, Difference, Faulty, value_of, add, subtract}
use Rattle.rv_map_laws.specs.Map.{Map, Global}
use Rattle.rv_map_laws.specs.Limits.{IsMap}
use Rattle.rv_map_laws.specs.Globals.{global_address}
use Rattle.rv_map_laws.specs.declared.map.Row.{Row}
use Rattle.rv_statement_laws.specs.Statement.{Statement, Expression}
use Rattle.rv_statement_laws.specs.declared.directive.Binding.{Binding}
use Rattle.rv_unit_laws.specs.Bindings.{is_weak}
use Rattle.rv_unit_laws.specs.Faults.{first_unit_fault}
use Rattle.rv_unit_laws.specs.Sections.{Opened, section_at}
use Rattle.rv_unit_laws.specs.Tables.{Tables, SectionOffset, Definition, definition_at, Assignment, Labelled, NumericLabel, at_start, tables, opened_of, stands, assigned_before, assigned_ever, label_of, numeric_label_before, numeric_label_after, assigned_first, labelled, assigned_later, own_named, weakened, forward_in, backward_in, is_location, assigned_definition, labelled_definition, first_definition, numeric_definition, sure_definition}
use Rattle.rv_source_laws.specs.Located.{Located, left_of, left, located, has_row}
use Rattle.rv_source_laws.specs.Program.{MaybeMapped, Mapped, Program, program, mapped_statements, tables_in, place_of, address, address_at, home_address, address_by, unshown_address, chosen, resolved, form, value}
use Rattle.rv_source_laws.specs.Fits.{Fits}
use Rattle.rv_source_laws.proofs.LeftLemmas.{all_left}
use Rattle.rv_value_theorems.specs.Plain.{plain}
use Rattle.rv_value_theorems.specs.Agreement.{IsMeant, HasItsNumber, Agree, HaveTheirNumbers, number_meant, numbers, HasForm}
use Rattle.rv_value_theorems.specs.Sites.{site_meaning, site_numbers, address_from, site_numbers_from, IsPlain, ArePlain}
use Rattle.rv_value_theorems.proofs.AgreementLemmas.{value_by_addresses, found_by_addresses}
use Rattle.rv_value_theorems.proofs.FilesLemmas.{file_of, of_file, all_files, all_statements, all_mapped, IsRowed, rowed}
use Rattle.rv_value_theorems.proofs.PlacesLemmas.{IsThere, IsAtPlace, StandsInData, IsSetInData, DataStands, IsKnown, known, base, tables_are, data_stands, all_both}

-- ---- addresses fit 64 bits

home_small : (statements : List MaybeMapped) (file : ℕ) (h : Definition) → IfSome (home_address statements file h) (λ x. x < 2 ^ 64)
home_small statements file h = go (address_at statements file h.ordinal)
  where
    go : (n : Option ℕ) → IfSome (option_map (λ a. add a h.plus) n) (λ x. x < 2 ^ 64)
    go None = tt
    go (Some a) = omega arith

global_small : (globals : List Global) (name : List ℕ) → AllByRecursion (λ (g : Global). g.address < 2 ^ 64) globals → IfSome (global_address globals name) (λ x. x < 2 ^ 64)
global_small globals name all = go (find (λ g. bytes_eq g.name name) globals) (each_find (λ (g : Global). g.address < 2 ^ 64) (λ g. bytes_eq g.name name) globals all)
  where
    go : (n : Option Global) → ((g : Global) → n ≡ Some g → g.address < 2 ^ 64) → IfSome (option_map (λ g. g.address) n) (λ x. x < 2 ^ 64)
    go None small = tt
    go (Some g) small = small g refl

either_small : (n k : Option ℕ) → IfSome n (λ x. x < 2 ^ 64) → IfSome k (λ x. x < 2 ^ 64) → IfSome (option_or n k) (λ x. x < 2 ^ 64)
either_small None k small other = other
either_small (Some n) k small other = small

zero_small : (b : Bool) → IfSome (if b then Some 0 else None) (λ x. x < 2 ^ 64)
zero_small true = omega arith
zero_small false = tt

address_small : (p : Program) (file : ℕ) (q : Primary) (d : Option Definition) → AllByRecursion (λ (g : Global). g.address < 2 ^ 64) p.map.globals → IfSome (address_by p file q d) (λ x. x < 2 ^ 64)
address_small p file q (Some h) all = home_small p.statements file h
address_small p file (Literal n) None all = tt
address_small p file (Symbol name) None all = either_small (global_address p.map.globals name) (unshown_address p (tables_in p file) name) (global_small p.map.globals name all) (zero_small (is_weak ((tables_in p file).bindings name) && not (is_some (chosen p name))))
address_small p file Here None all = tt
address_small p file (Reference digits forward) None all = tt

-- ---- places

module _ (base elsewhere : ℕ → ℕ) where
  -- the number of a name, by what it means and its address
  meant_at : (at : Meaning) (n : Option ℕ) → IfSome n (λ x. x < 2 ^ 64)
      → ((i o : ℕ) → at ≡ InSection i o → (o < 2 ^ 64) × IsThere base elsewhere n i o)
      → IsMeant base at (number_meant at n) × IsMeant base at (number_meant at (address_from elsewhere at n))
  meant_at (Known k) n small there = (refl, refl)
  meant_at (InSection i o) None small there = let h = there i o refl in ((h.0, tt), (h.0, ap (λ x. add x o) (sym h.1)))
  meant_at (InSection i o) (Some x) small there = let h = there i o refl in (h, h)
  meant_at Open n small there = (small, small)
  meant_at (Refused code) n small there = (tt, tt)

  module _ (statements : List MaybeMapped) (file : ℕ) (opened : Opened) where
    place_stands : (ordinal : ℕ) (at : SectionOffset) (i o : ℕ) → StandsInData base elsewhere statements file opened ordinal at → stands opened at ≡ InSection i o → IsAtPlace base elsewhere statements file (definition_at ordinal) i o
    place_stands ordinal at i o there is = go (section_at opened at.section).executable there is
      where
        go : (b : Bool) → (b ≡ false → IsAtPlace base elsewhere statements file (definition_at ordinal) at.section at.offset) → (if b then Open else InSection at.section at.offset) ≡ InSection i o
            → IsAtPlace base elsewhere statements file (definition_at ordinal) i o
        go true at_place e = absurd (cc)
        go false at_place e = let si : at.section ≡ i = cc in let so : at.offset ≡ o = cc in rw (sym si, sym so) (at_place refl)

set_location : (s : Assignment) (i o : ℕ) → s.meaning ≡ InSection i o → is_location s ≡ true
set_location s i o is = ap (λ m. is_location (record s { meaning = m })) is

later_is : (s : Assignment) (at : Meaning) (i o : ℕ) → assigned_later true (Some (record s { meaning = at })) ≡ InSection i o → at ≡ InSection i o
later_is s (Known n) i o is = absurd (cc)
later_is s (InSection j u) i o is = is
later_is s Open i o is = absurd (cc)
later_is s (Refused c) i o is = absurd (cc)

weak_place : (b : Binding) (own : Meaning) (i o : ℕ) → weakened b own ≡ InSection i o → (is_weak b ≡ false) × (own ≡ InSection i o)
weak_place b (Known n) i o is = absurd (cc)
weak_place b (InSection j u) i o is = go (is_weak b) is
  where
    go : (w : Bool) → (if w then Open else InSection j u) ≡ InSection i o → (w ≡ false) × (InSection j u ≡ InSection i o)
    go true e = absurd (cc)
    go false e = (refl, e)
weak_place b Open i o is = absurd (cc)
weak_place b (Refused c) i o is = absurd (cc)

-- where a definition, if there is one, has its address
abbrev IsDefinedAt : (base elsewhere : ℕ → ℕ) → Program → ℕ → Primary → Option Definition → ℕ → ℕ → Type 0
IsDefinedAt base elsewhere p file q d i o = (o < 2 ^ 64) × IsThere base elsewhere (address_by p file q d) i o

module _ (base elsewhere : ℕ → ℕ) (p : Program) (file : ℕ) (opened : Opened) where
  own_place : (q : Primary) (before ever : Option Assignment) (label : Option Labelled) (i o : ℕ)
      → ((a : Assignment) → before ≡ Some a → IsSetInData base elsewhere p.statements file a)
      → ((a : Assignment) → ever ≡ Some a → IsSetInData base elsewhere p.statements file a)
      → ((l : Labelled) → label ≡ Some l → StandsInData base elsewhere p.statements file opened l.ordinal l.place)
      → assigned_first before (labelled opened label (assigned_later true ever)) ≡ InSection i o
      → IsDefinedAt base elsewhere p file q (first_definition (assigned_definition before) (labelled_definition label (assigned_definition ever))) i o
  own_place q (Some a) ever label i o bs es ls is = rw (set_location a i o is) (bs a refl i o is)
  own_place q None ever (Some l) i o bs es ls is = place_stands base elsewhere p.statements file opened l.ordinal l.place i o (ls l refl) is
  own_place q None (Some a) None i o bs es ls is =
      let e : a.meaning ≡ InSection i o = later_is a a.meaning i o is in
      rw (set_location a i o e) (es a refl i o e)
  own_place q None None None i o bs es ls is = absurd (cc)

  reference_place : (q : Primary) (label : Option NumericLabel) (m : Meaning) (i o : ℕ)
      → ((l : NumericLabel) → label ≡ Some l → StandsInData base elsewhere p.statements file opened l.ordinal l.place)
      → ((l : NumericLabel) → label ≡ Some l → m ≡ stands opened l.place) → ((label ≡ None) → m ≡ InSection i o → ⊥)
      → m ≡ InSection i o
      → IsDefinedAt base elsewhere p file q (numeric_definition label) i o
  reference_place q (Some l) m i o ls same never is = place_stands base elsewhere p.statements file opened l.ordinal l.place i o (ls l refl) (sym (same l refl) ∙ is)
  reference_place q None m i o ls same never is = absurd (never refl is)

forward_is : (opened : Opened) (label : Option NumericLabel) (l : NumericLabel) → label ≡ Some l → forward_in opened true label ≡ stands opened l.place
forward_is opened label l is = rw is refl

forward_never : (opened : Opened) (label : Option NumericLabel) (i o : ℕ) → label ≡ None → forward_in opened true label ≡ InSection i o → ⊥
forward_never opened None i o none is = cc
forward_never opened (Some l) i o none is = cc

backward_is : (opened : Opened) (label : Option NumericLabel) (l : NumericLabel) → label ≡ Some l → backward_in opened label ≡ stands opened l.place
backward_is opened label l is = rw is refl

backward_never : (opened : Opened) (label : Option NumericLabel) (i o : ℕ) → label ≡ None → backward_in opened label ≡ InSection i o → ⊥
backward_never opened None i o none is = cc
backward_never opened (Some l) i o none is = cc

module _ (base elsewhere : ℕ → ℕ) (p : Program) (s : Located) (stood : DataStands base elsewhere p s.file (tables_in p s.file) s.ordinal (place_of s)) where
  abbrev t : Tables
  t = tables_in p s.file

  abbrev IsLabelled : Labelled → Type 0
  IsLabelled l = StandsInData base elsewhere p.statements s.file (opened_of t) l.ordinal l.place

  abbrev IsNumbered : NumericLabel → Type 0
  IsNumbered l = StandsInData base elsewhere p.statements s.file (opened_of t) l.ordinal l.place

  place_is : (q : Primary) (i o : ℕ) → site_meaning p s q ≡ InSection i o → (o < 2 ^ 64) × IsThere base elsewhere (address p s q) i o
  place_is (Literal n) i o is = absurd (cc)
  place_is (Symbol name) i o is =
      let strong = weak_place (t.bindings name) (own_named t true s.ordinal name) i o is in
      rw strong.0
      (own_place base elsewhere p s.file (opened_of t) (Symbol name) (assigned_before t.assignments s.ordinal name) (assigned_ever t.assignments name) (label_of t.labels true s.ordinal name) i o
      (each_find (IsSetInData base elsewhere p.statements s.file) (λ a. nat_lt a.ordinal s.ordinal && bytes_eq a.name name) t.assignments stood.assignments)
      (each_find (IsSetInData base elsewhere p.statements s.file) (λ a. bytes_eq a.name name) t.assignments stood.assignments)
      (each_find IsLabelled (λ l. bytes_eq l.name name && (true || nat_lt l.ordinal s.ordinal)) t.labels stood.labels)
      strong.1)
  place_is Here i o is = place_stands base elsewhere p.statements s.file (opened_of t) s.ordinal (place_of s) i o stood.site is
  place_is (Reference digits true) i o is =
      let label : Option NumericLabel = numeric_label_after t.numeric_labels s.ordinal (digits_value 10 digits) in
      reference_place base elsewhere p s.file (opened_of t) (Reference digits true) label (forward_in (opened_of t) true label) i o
      (each_find IsNumbered (λ l. nat_lt s.ordinal l.ordinal && (l.number == digits_value 10 digits)) (reverse t.numeric_labels) (each_reversed IsNumbered t.numeric_labels stood.numeric_labels))
      (forward_is (opened_of t) label) (forward_never (opened_of t) label i o) is
  place_is (Reference digits false) i o is =
      let label : Option NumericLabel = numeric_label_before t.numeric_labels s.ordinal (digits_value 10 digits) in
      reference_place base elsewhere p s.file (opened_of t) (Reference digits false) label (backward_in (opened_of t) label) i o
      (each_find IsNumbered (λ l. nat_lt l.ordinal s.ordinal && (l.number == digits_value 10 digits)) t.numeric_labels stood.numeric_labels)
      (backward_is (opened_of t) label) (backward_never (opened_of t) label i o) is

  name_is : (q : Primary) → IsMeant base (site_meaning p s q) (site_numbers p s q) × IsMeant base (site_meaning p s q) (site_numbers_from elsewhere p s q)
  name_is q =
      meant_at base elsewhere (site_meaning p s q) (address p s q)
      (address_small p s.file q (sure_definition (tables_in p s.file) s.ordinal q) stood.globals) (place_is q)

  -- what holds of the number of each name holds of those of an expression
  agree_by : (a : Primary → Option ℕ) → ((q : Primary) → IsMeant base (site_meaning p s q) (a q)) → (e : Tree) → Agree base (site_meaning p s) a e
  agree_by a h (Leaf (Literal n)) = tt
  agree_by a h (Leaf (Symbol name)) = h (Symbol name)
  agree_by a h (Leaf Here) = h Here
  agree_by a h (Leaf (Reference digits forward)) = h (Reference digits forward)
  agree_by a h (Unary o x) = agree_by a h x
  agree_by a h (Paren x) = agree_by a h x
  agree_by a h (Binary o x y) = (agree_by a h x, agree_by a h y)

-- ---- places without an address

from_has : (begins : ℕ → ℕ) (at : Meaning) (n : Option ℕ) → HasItsNumber at (number_meant at (address_from begins at n))
from_has begins (Known k) n = refl
from_has begins (InSection i o) None = refl
from_has begins (InSection i o) (Some x) = refl
from_has begins Open n = tt
from_has begins (Refused code) n = tt

have_from : (begins : ℕ → ℕ) (m : Primary → Meaning) (a : Primary → Option ℕ) (e : Tree) → HaveTheirNumbers m (numbers m (λ q. address_from begins (m q) (a q))) e
have_from begins m a (Leaf (Literal n)) = tt
have_from begins m a (Leaf (Symbol name)) = from_has begins (m (Symbol name)) (a (Symbol name))
have_from begins m a (Leaf Here) = from_has begins (m Here) (a Here)
have_from begins m a (Leaf (Reference digits forward)) = from_has begins (m (Reference digits forward)) (a (Reference digits forward))
have_from begins m a (Unary o x) = have_from begins m a x
have_from begins m a (Paren x) = have_from begins m a x
have_from begins m a (Binary o x y) = (have_from begins m a x, have_from begins m a y)

from_keeps : (begins : ℕ → ℕ) (at : Meaning) (n : Option ℕ) (x : ℕ) → n ≡ Some x → address_from begins at n ≡ Some x
from_keeps begins at None x is = absurd (cc)
from_keeps begins (Known k) (Some y) x is = is
from_keeps begins (InSection i o) (Some y) x is = is
from_keeps begins Open (Some y) x is = is
from_keeps begins (Refused code) (Some y) x is = is

-- a value keeps its number where names get more addresses
module _ (a b : Primary → Option ℕ) (more : (q : Primary) (x : ℕ) → a q ≡ Some x → b q ≡ Some x) where
  resolved_more : (v : Value) (x : ℕ) → resolved a v ≡ Some x → (HasForm v) × (resolved b v ≡ Some x)
  resolved_more (Constant n) x is = (tt, is)
  resolved_more (Symbolic q at k) x is = (tt, go (a q) refl is)
    where
      go : (n : Option ℕ) → a q ≡ n → option_map (λ y. add y k) n ≡ Some x → option_map (λ y. add y k) (b q) ≡ Some x
      go None e is = absurd (cc)
      go (Some y) e is = ap (option_map (λ y. add y k)) (more q y e) ∙ is
  resolved_more (Difference q r k) x is = (tt, go (a q) (a r) refl refl is)
    where
      go : (n u : Option ℕ) → a q ≡ n → a r ≡ u → option_and_then (λ x. option_map (λ y. add (subtract x y) k) u) n ≡ Some x
          → option_and_then (λ x. option_map (λ y. add (subtract x y) k) (b r)) (b q) ≡ Some x
      go None u e f is = absurd (cc)
      go (Some y) None e f is = absurd (cc)
      go (Some y) (Some z) e f is =
          ap (option_and_then (λ x. option_map (λ y. add (subtract x y) k) (b r))) (more q y e) ∙ ap (option_map (λ z. add (subtract y z) k)) (more r z f) ∙ is
  resolved_more (Faulty c) x is = absurd (cc)

-- ---- the statements of a program

-- whatever is taken for the starts of sections without addresses
abbrev Standing : Program → Located → Type 0
Standing p s = (elsewhere : ℕ → ℕ) → (base : ℕ → ℕ) × DataStands base elsewhere p s.file (tables_in p s.file) s.ordinal (place_of s)

site_plain : (p : Program) (s : Mapped) → Standing p s.located → IsPlain p s
site_plain p s stands = record {
  equal = λ e form numbers.
      let (base, stood) = stands (λ section. 0) in
      value_by_addresses base (site_meaning p s.located) (λ q. address p s.located q) e
      (agree_by base (λ section. 0) p s.located stood (site_numbers p s.located) (λ q. (name_is base (λ section. 0) p s.located stood q).0) e) numbers form;
  found = λ e x form is.
      let (base, stood) = stands (λ section. 0) in
      found_by_addresses base (site_meaning p s.located) (λ q. address p s.located q) e x
      (agree_by base (λ section. 0) p s.located stood (site_numbers p s.located) (λ q. (name_is base (λ section. 0) p s.located stood q).0) e) form is;
  anywhere = λ begins e x is.
      let (base, stood) = stands begins in
      let m : Primary → Meaning = site_meaning p s.located in
      let a : Primary → Option ℕ = λ q. address_from begins (m q) (address p s.located q) in
      let more = resolved_more (λ q. address p s.located q) a (λ q y found. from_keeps begins (m q) (address p s.located q) y found) (form p s.located e) x is in
      sym (value_by_addresses base m a e
      (agree_by base begins p s.located stood (site_numbers_from begins p s.located) (λ q. (name_is base begins p s.located stood q).1) e)
      (have_from begins m (λ q. address p s.located q) e) more.0) ∙ more.1;
}

module _ (sources : List (List Statement)) (m : Map) (text_start : ℕ) (is_map : IsMap m) (fits : Fits sources m text_start) where
  abbrev p : Program
  p = program sources m

  -- a statement that may have a row
  abbrev Placed : Located → Type 0
  Placed l = l.placed ≡ true → Standing p l

  file_placed : (i : ℕ) (ss : List Statement) → slice_get sources i ≡ Some ss → AllByRecursion (λ l. Placed (left_of m.drops l)) (file_of (1 + i) ss)
  file_placed i ss at =
      all_both (IsKnown (tables ss) (file_of (1 + i) ss) m.drops) (λ l. l.file ≡ 1 + i) (λ l. Placed (left_of m.drops l)) (file_of (1 + i) ss)
      (λ l known_l own placed elsewhere. (
        base sources m text_start is_map fits i ss at elsewhere,
        subst (λ f. DataStands (base sources m text_start is_map fits i ss at elsewhere) elsewhere p f (tables_in p f) l.ordinal (place_of l)) (sym own)
            (subst (λ t. DataStands (base sources m text_start is_map fits i ss at elsewhere) elsewhere p (1 + i) t l.ordinal (place_of l)) (sym (tables_are sources m text_start is_map fits i ss at elsewhere))
            (data_stands sources m text_start is_map fits i ss at elsewhere l known_l placed)),
      ))
      (known (1 + i) ss (each_get (λ ss. first_unit_fault ss ≡ None) sources i ss fits.good at) m.drops)
      (of_file (1 + i) 1 (at_start ss) ss)

  all_placed : AllByRecursion Placed (left m.drops sources)
  all_placed = all_left (λ l. Placed (left_of m.drops l)) Placed m.drops (located sources) (λ l h. h) (all_files (λ l. Placed (left_of m.drops l)) 1 sources file_placed)

  has_placed : (e : MaybeMapped) (r : Row) → e.row ≡ Some r → IsRowed e → e.located.placed ≡ true
  has_placed e r is row =
      let both : (e.located.placed && e.located.home.loaded) ≡ true = sym row ∙ ap (λ (o : Option Row). is_some o) is in
      (and_parts e.located.placed e.located.home.loaded both).0

  pub are_plain : ArePlain p
  are_plain =
      all_mapped (λ (e : MaybeMapped). Placed e.located × IsRowed e) (IsPlain p) (mapped_statements (left m.drops sources) m.rows)
      (λ e r is h. site_plain p (record { located = e.located; row = r }) (h.0 (has_placed e r is h.1)))
      (all_both (λ (e : MaybeMapped). Placed e.located) IsRowed (λ (e : MaybeMapped). Placed e.located × IsRowed e) (mapped_statements (left m.drops sources) m.rows) (λ e x y. (x, y))
      (all_statements Placed (left m.drops sources) m.rows all_placed) (rowed m.drops sources m.rows fits.rows))
