-- The parts of two programs of the same objects are the same.

use Rattle.std.proofs.Common.{◌≡◌, ℕ, List, [], ◌++◌, sym, ap, ◌∙◌, subst, Option, Some, None}
use Rattle.std.specs.Prelude.{Bool, true, IsTrue, is_some, not}
use Rattle.std.specs.List.{AllByRecursion}
use Rattle.std.proofs.lemmas.Bool.{and_parts}
use Rattle.rv_list_laws.proofs.EachLemmas.{each_from_both, each_weaker}
use Rattle.rv_list_laws.proofs.TruthLemmas.{and_four_first}
use Rattle.rv_map_laws.specs.Map.{Map}
use Rattle.rv_map_laws.specs.declared.map.Region.{Region}
use Rattle.rv_image_laws.specs.Linked.{Linked}
use Rattle.rv_object_laws.specs.Object.{Section, Object}
use Rattle.rv_link_laws.specs.declared.bounds.Ground.{Ground}
use Rattle.rv_link_laws.specs.Inputs.{Starts, has_no_bytes, goes_to_text, goes_to_rodata, goes_to_data, inputs, contents}
use Rattle.rv_link_laws.specs.Names.{Outer, outer_address, globals_of, shown_linker_symbols}
use Rattle.rv_link_laws.specs.Values.{target, value, IsRelocated, linked_bytes}
use Rattle.rv_link_laws.specs.IsLinkOf.{is_loaded, outer_of, IsLinkOf}
use Rattle.rv_link_laws.specs.Undefined.{first_undefined}
use Rattle.rv_unique_theorems.specs.Asked.{HavePlacedRows}
use Rattle.rv_unique_theorems.proofs.AgreedLemmas.{StartsSame, AreAgreed, AreLaid, AreOne, gaps_same, contents_same, laid_same}
use Rattle.rv_unique_theorems.proofs.AddressesLemmas.{all_globals, all_entries, all_rows}
use Rattle.rv_unique_theorems.proofs.ValuesLemmas.{ValuesSame, all_values, bytes_same}
use Rattle.rv_unique_theorems.proofs.MeantLemmas.{HaveTargets, none_undefined}

-- ---- names

-- regions, as the linker's names see them
abbrev regions : Region → Region → Region → Map
regions text variables bss = record {
  text = text;
  rodata = text;
  «data» = variables;
  bss = bss;
  entry = 0;
  gaps = [];
  globals = [];
  drops = [];
  rows = [];
}

pub every_same : (s t : Starts) (os : List Object) → AreAgreed s t 1 os → (a b : Map) → a.text ≡ b.text → a.data ≡ b.data → a.bss ≡ b.bss
    → globals_of s os ++ shown_linker_symbols os a ≡ globals_of t os ++ shown_linker_symbols os b
every_same s t os agreed a b text variables bss =
    ap (λ l. l ++ shown_linker_symbols os a) (all_globals s t os agreed)
    ∙ ap (λ r. globals_of t os ++ shown_linker_symbols os (regions r a.data a.bss)) text
    ∙ ap (λ r. globals_of t os ++ shown_linker_symbols os (regions b.text r a.bss)) variables
    ∙ ap (λ r. globals_of t os ++ shown_linker_symbols os (regions b.text b.data r)) bss

-- ---- values

pub values_between : (s t : Starts) (g h : Outer) (os : List Object) → AreAgreed s t 1 os → g ≡ h → first_undefined os ≡ None
    → AllByRecursion (λ i. AllByRecursion (λ r. value g s os i r ≡ value h t os i r) i.section.relocations) (inputs is_loaded os)
values_between s t g h os agreed same none =
    subst (λ l. AllByRecursion (λ i. AllByRecursion (λ r. value l s os i r ≡ value h t os i r) i.section.relocations) (inputs is_loaded os)) (sym same)
    (all_values s t h os is_loaded (λ x e. e) agreed none)

-- ---- a linked program

module _ (os : List Object) (bounds : Ground) (l : Linked) (h : IsLinkOf os bounds l) where
  pub linked_laid : AreLaid os bounds.text h.starts l.map.text l.map.rodata l.map.data l.map.bss
  linked_laid = record { in_text = h.text; in_rodata = h.rodata; in_data = h.data; in_bss = h.bss }

  -- none of its references is undefined
  pub linked_meant : first_undefined os ≡ None
  linked_meant =
      none_undefined os h.starts l.map
      (each_weaker (λ i. AllByRecursion (IsRelocated (outer_of os l) h.starts os i) i.section.relocations) (HaveTargets os h.starts l.map)
      (λ i own. each_weaker (IsRelocated (outer_of os l) h.starts os i) (λ r. IsTrue (is_some (target (outer_address os (globals_of h.starts os ++ shown_linker_symbols os l.map)) (h.starts i.file) i.object r.symbol)))
      (λ r is. subst (λ g. IsTrue (is_some (target (outer_address os g) (h.starts i.file) i.object r.symbol))) h.globals is.resolved) i.section.relocations own) (inputs is_loaded os) h.relocated)

-- ---- two of them

text_loads : (x : Section) → goes_to_text x ≡ true → x.loaded ≡ true
text_loads x e = (and_parts x.loaded x.executable e).0

rodata_loads : (x : Section) → goes_to_rodata x ≡ true → x.loaded ≡ true
rodata_loads x e = and_four_first x.loaded (not x.executable) (not (has_no_bytes x.contents)) (not x.writable) e

data_loads : (x : Section) → goes_to_data x ≡ true → x.loaded ≡ true
data_loads x e = and_four_first x.loaded (not x.executable) (not (has_no_bytes x.contents)) x.writable e

module _ (os : List Object) (bounds : Ground) (l m : Linked) (placed : HavePlacedRows os) (h : IsLinkOf os bounds l) (k : IsLinkOf os bounds m) (drops : l.map.drops ≡ m.map.drops) where
  one : AreOne os h.starts k.starts l.map.text m.map.text l.map.rodata m.map.rodata l.map.data m.map.data l.map.bss m.map.bss
  one = laid_same os bounds.text h.starts k.starts l.map.text m.map.text l.map.rodata m.map.rodata l.map.data m.map.data l.map.bss m.map.bss (linked_laid os bounds l h) (linked_laid os bounds m k)

  same_globals : l.map.globals ≡ m.map.globals
  same_globals = h.globals ∙ every_same h.starts k.starts os one.agreed l.map m.map one.same_text one.same_data one.same_bss ∙ sym k.globals

  same_gaps : l.map.gaps ≡ m.map.gaps
  same_gaps = h.gaps ∙ gaps_same h.starts k.starts bounds.text (inputs goes_to_text os) one.in_text ∙ sym k.gaps

  same_rows : l.map.rows ≡ m.map.rows
  same_rows = h.rows ∙ all_rows h.starts k.starts 1 os one.agreed placed ∙ sym k.rows

  same_entry : l.map.entry ≡ m.map.entry
  same_entry = let both : ◌≡◌ {A = Option ℕ} (Some l.map.entry) (Some m.map.entry) = sym h.entry ∙ all_entries h.starts k.starts os one.agreed ∙ k.entry in cc

  same_outer : outer_of os l ≡ outer_of os m
  same_outer = ap (outer_address os) same_globals

  same_contents : (goes : Section → Bool) → ((x : Section) → goes x ≡ true → x.loaded ≡ true) → AllByRecursion (StartsSame h.starts k.starts) (inputs goes os) → (r q : Region) → r ≡ q
      → contents (linked_bytes (outer_of os l) h.starts os) h.starts r.start (inputs goes os) ≡ contents (linked_bytes (outer_of os m) k.starts os) k.starts q.start (inputs goes os)
  same_contents goes and_four_first same r q is =
      contents_same h.starts k.starts (linked_bytes (outer_of os l) h.starts os) (linked_bytes (outer_of os m) k.starts os) r.start (inputs goes os) same
      (each_from_both (StartsSame h.starts k.starts) (ValuesSame h.starts k.starts (outer_of os m) os) (λ i. linked_bytes (outer_of os l) h.starts os i ≡ linked_bytes (outer_of os m) k.starts os i)
      (λ i at values. ap (λ g. linked_bytes g h.starts os i) same_outer ∙ bytes_same h.starts k.starts (outer_of os m) os i at values) (inputs goes os) same
      (all_values h.starts k.starts (outer_of os m) os goes and_four_first one.agreed (linked_meant os bounds l h)))
      ∙ ap (λ x. contents (linked_bytes (outer_of os m) k.starts os) k.starts x.start (inputs goes os)) is

  same_map : l.map ≡ m.map
  same_map = λ i. record {
    text = one.same_text i;
    rodata = one.same_rodata i;
    «data» = one.same_data i;
    bss = one.same_bss i;
    entry = same_entry i;
    gaps = same_gaps i;
    globals = same_globals i;
    drops = drops i;
    rows = same_rows i;
  }

  same_text : l.text ≡ m.text
  same_text = h.text_bytes ∙ same_contents goes_to_text text_loads one.in_text l.map.text m.map.text one.same_text ∙ sym k.text_bytes

  same_rodata : l.rodata ≡ m.rodata
  same_rodata = h.rodata_bytes ∙ same_contents goes_to_rodata rodata_loads one.in_rodata l.map.rodata m.map.rodata one.same_rodata ∙ sym k.rodata_bytes

  same_data : l.data ≡ m.data
  same_data = h.data_bytes ∙ same_contents goes_to_data data_loads one.in_data l.map.data m.map.data one.same_data ∙ sym k.data_bytes

  same_rvc : l.rvc ≡ m.rvc
  same_rvc = h.rvc ∙ sym k.rvc

  pub same_program : l ≡ m
  same_program = λ i. record { text = same_text i; rodata = same_rodata i; «data» = same_data i; map = same_map i; rvc = same_rvc i }
