-- Values of relocations and bytes of sections by where loaded sections start.

use Rattle.std.proofs.Common.{◌≡◌, ℕ, suc, ◌+◌, ℤ, pos, Bool, true, false, Option, Some, None, option_map, List, [], ◌∷◌, refl, sym, ap, ◌∙◌, subst, arith}
use Rattle.std.specs.Prelude.{option_and_then, unwrap_or, if◌then◌else◌}
use Rattle.std.specs.List.{AllByRecursion, slice_get}
use Rattle.rv_list_laws.proofs.EachLemmas.{each_get}
use Rattle.rv_isa.specs.Kinds.{is_low_part}
use Rattle.rv_reloc_laws.specs.Values.{value_of}
use Rattle.rv_object_laws.specs.declared.symbol.Definition.{Definition}
use Rattle.rv_object_laws.specs.declared.symbol.Definition.TheVariants as definitions
use Rattle.rv_object_laws.specs.Object.{Relocation, Section, Symbol, Object}
use Rattle.rv_link_laws.specs.Moves.{moves, new_offset, kept}
use Rattle.rv_link_laws.specs.Inputs.{Starts, InputSection, start_of, inputs}
use Rattle.rv_link_laws.specs.Names.{Export, Outer, is_sure, chosen, symbol_address, place_in, shared_place, symbol_place, object_at}
use Rattle.rv_link_laws.specs.Values.{target, moved, own_value, high_at, value_in, value_at, paired, value, patched_at, applied, initial_bytes, linked_bytes}
use Rattle.rv_link_laws.specs.Undefined.{is_loaded_at, has_address, is_known, is_resolved, undefined_symbol, undefined_name, first_some, undefined_in, first_undefined}
use Rattle.rv_link_laws.proofs.FirstSomeLemmas.{each_none}
use Rattle.rv_link_laws.proofs.ListsLemmas.{found_at}
use Rattle.rv_unique_theorems.proofs.FoundLemmas.{input, Each, EachOf, all_of}
use Rattle.rv_unique_theorems.proofs.ExportsLemmas.{OfFiles, of_chosen}
use Rattle.rv_unique_theorems.proofs.AgreedLemmas.{StartsSame, IsAgreed, AreAgreed}
use Rattle.rv_unique_theorems.proofs.AddressesLemmas.{defined_same}

-- ---- lists

module _ (s t : Starts) (outer : Outer) (os : List Object) where
  -- ---- files

  -- an object with its file, whose loaded sections start where they do
  abbrev pub IsFile : ℕ → Object → Type 0
  IsFile file o = (object_at os file ≡ o) × IsAgreed s t file o

  abbrev pub AreFiles : ℕ → List Object → Type 0
  AreFiles = OfFiles IsFile

  files_are : (k : ℕ) (ps : List Object) → ((j : ℕ) (o : Object) → slice_get ps j ≡ Some o → slice_get os (k + j) ≡ Some o) → AreAgreed s t (suc k) ps → AreFiles (suc k) ps
  files_are k [] there h = tt
  files_are k (o ∷ ps) there (own, h) = (
    (ap (object_at os) (let next : suc k ≡ k + 1 = omega arith in next) ∙ found_at os k o (ap (slice_get os) (let same : k ≡ k + 0 = omega arith in same) ∙ there 0 o refl), own),
    files_are (suc k) ps (λ j q e. let next : suc k + j ≡ k + suc j = omega arith in ap (slice_get os) next ∙ there (suc j) q e) h,
  )

  -- ---- own values

  module _ (file : ℕ) (o : Object) (own : IsAgreed s t file o) where
    symbol_same : (y : Symbol) → symbol_address outer (s file) o y ≡ symbol_address outer (t file) o y
    symbol_same y = ap (λ a. if is_sure y then a else outer y) (defined_same s t file o own y.definition)

    target_same : (index : Option ℕ) → target outer (s file) o index ≡ target outer (t file) o index
    target_same None = refl
    target_same (Some index) = by (slice_get o.symbols index)
      where
        by : (f : Option Symbol) → option_and_then (symbol_address outer (s file) o) f ≡ option_and_then (symbol_address outer (t file) o) f
        by None = refl
        by (Some y) = symbol_same y

    own_same : (index : ℕ) (x : Section) → slice_get o.sections index ≡ Some x → x.loaded ≡ true → (r : Relocation)
        → own_value outer (s file) o (s file index) x r ≡ own_value outer (t file) o (t file index) x r
    own_same index x at loaded r =
        ap (λ a. value_of r.kind (unwrap_or a 0) r.addend (moved (s file index) x r.place)) (target_same r.symbol)
        ∙ ap (λ n. value_of r.kind (unwrap_or (target outer (t file) o r.symbol) 0) r.addend (moved n x r.place)) (own index x at loaded)

    -- ---- values of low parts

    high_same : (section offset : ℕ) (f : Option Section) → slice_get o.sections section ≡ f → is_loaded_at f ≡ true → value_in outer s file o section offset f ≡ value_in outer t file o section offset f
    high_same section offset None at e = absurd (cc)
    high_same section offset (Some x) at e =
        ap (λ n. option_map (own_value outer (s file) o (s file section) x) (high_at (moves n x) offset x.relocations)) (own section x at e)
        ∙ by (high_at (moves (t file section) x) offset x.relocations)
      where
        by : (f : Option Relocation) → option_map (own_value outer (s file) o (s file section) x) f ≡ option_map (own_value outer (t file) o (t file section) x) f
        by None = refl
        by (Some r) = ap Some (own_same section x at e r)

  place_same : (file : ℕ) (o : Object) → IsFile file o → (d : Definition) → has_address o d ≡ true → value_at outer s os (place_in file d) ≡ value_at outer t os (place_in file d)
  place_same file o is definitions.Undefined e = refl
  place_same file o is (definitions.Absolute n) e = refl
  place_same file o is (definitions.Skipped n) e = refl
  place_same file o (at, own) (definitions.InSection section offset) e =
      subst (λ z. value_in outer s file z section offset (slice_get z.sections section) ≡ value_in outer t file z section offset (slice_get z.sections section)) (sym at)
      (high_same file o own section offset (slice_get o.sections section) refl e)

  module _ (files : AreFiles 1 os) (file : ℕ) (o : Object) (is : IsFile file o) where
    shared_same : (y : Symbol) → is_known y (chosen os y.name) ≡ true → value_at outer s os (shared_place os y.name) ≡ value_at outer t os (shared_place os y.name)
    shared_same y e = by (chosen os y.name) refl e
      where
        by : (f : Option Export) → chosen os y.name ≡ f → is_known y f ≡ true
            → value_at outer s os (option_and_then (λ (x : Export). place_in x.file x.symbol.definition) f) ≡ value_at outer t os (option_and_then (λ (x : Export). place_in x.file x.symbol.definition) f)
        by None is k = refl
        by (Some x) is k = place_same x.file x.object (of_chosen IsFile os files y.name x is) x.symbol.definition k

    meant_same : (y : Symbol) → is_resolved os o y ≡ true → value_at outer s os (symbol_place os file y) ≡ value_at outer t os (symbol_place os file y)
    meant_same y e = by (is_sure y) e
      where
        by : (b : Bool) → (if b then has_address o y.definition else is_known y (chosen os y.name)) ≡ true
            → value_at outer s os (if b then place_in file y.definition else shared_place os y.name) ≡ value_at outer t os (if b then place_in file y.definition else shared_place os y.name)
        by true k = place_same file o is y.definition k
        by false k = shared_same y k

    paired_same : (index : Option ℕ) → undefined_name os o index ≡ None → paired outer s os file o index ≡ paired outer t os file o index
    paired_same None e = refl
    paired_same (Some index) e = by (slice_get o.symbols index) e
      where
        named_by : (y : Symbol) (b : Bool) → is_resolved os o y ≡ b → (if b then None else Some y.name) ≡ None → value_at outer s os (symbol_place os file y) ≡ value_at outer t os (symbol_place os file y)
        named_by y true f e = meant_same y f
        named_by y false f e = absurd (cc)

        by : (f : Option Symbol) → undefined_symbol os o f ≡ None
            → value_at outer s os (option_and_then (symbol_place os file) f) ≡ value_at outer t os (option_and_then (symbol_place os file) f)
        by None e = refl
        by (Some y) e = named_by y (is_resolved os o y) refl e

    pub value_same : (index : ℕ) (x : Section) → slice_get o.sections index ≡ Some x → x.loaded ≡ true → (r : Relocation) → undefined_name os o r.symbol ≡ None
        → value outer s os (input file o index x) r ≡ value outer t os (input file o index x) r
    value_same index x at loaded r e = by (is_low_part r.kind)
      where
        by : (b : Bool) → (if b then paired outer s os file o r.symbol else Some (own_value outer (s file) o (s file index) x r))
            ≡ (if b then paired outer t os file o r.symbol else Some (own_value outer (t file) o (t file index) x r))
        by true = paired_same r.symbol e
        by false = ap Some (own_same file o is.1 index x at loaded r)

    values_in : (index : ℕ) (x : Section) → slice_get o.sections index ≡ Some x → x.loaded ≡ true → (rs : List Relocation) → AllByRecursion (λ r. undefined_name os o r.symbol ≡ None) rs
        → AllByRecursion (λ r. value outer s os (input file o index x) r ≡ value outer t os (input file o index x) r) rs
    values_in index x at loaded [] h = tt
    values_in index x at loaded (r ∷ rs) (e, h) = (value_same index x at loaded r e, values_in index x at loaded rs h)

  -- ---- all of them

  abbrev pub ValuesSame : InputSection → Type 0
  ValuesSame i = AllByRecursion (λ r. value outer s os i r ≡ value outer t os i r) i.section.relocations

  module _ (goes : Section → Bool) (loads : (x : Section) → goes x ≡ true → x.loaded ≡ true) where
    values_from : (file : ℕ) (ps : List Object) → AreFiles 1 os → AreFiles file ps → AllByRecursion (λ o. first_some (undefined_in os o) o.sections ≡ None) ps → EachOf goes ValuesSame file ps
    values_from file [] files h k = tt
    values_from file (o ∷ ps) files (is, h) (none, k) = (each, values_from (suc file) ps files h k)
      where
        each : Each goes ValuesSame file o
        each index x at goes_there = by x.loaded (loads x goes_there) (each_get (λ y. undefined_in os o y ≡ None) o.sections index x (each_none (undefined_in os o) o.sections none) at)
          where
            by : (b : Bool) → b ≡ true → (if b then first_some (λ r. undefined_name os o r.symbol) x.relocations else None) ≡ None
                → AllByRecursion (λ r. value outer s os (input file o index x) r ≡ value outer t os (input file o index x) r) x.relocations
            by true e f = values_in files file o is index x at (loads x goes_there) x.relocations (each_none (λ r. undefined_name os o r.symbol) x.relocations f)
            by false e f = absurd (cc)

    pub all_values : AreAgreed s t 1 os → first_undefined os ≡ None → AllByRecursion ValuesSame (inputs goes os)
    all_values agreed none =
        let files = files_are 0 os (λ j o e. let plain : 0 + j ≡ j = omega arith in ap (slice_get os) plain ∙ e) agreed in
        all_of goes ValuesSame 1 os (values_from 1 os files files (each_none (λ o. first_some (undefined_in os o) o.sections) os none))

  -- ---- bytes

  applied_same : (new : ℕ → ℕ) (worth other : Relocation → ℤ) (rs : List Relocation) → AllByRecursion (λ r. worth r ≡ other r) rs → (bytes : List ℕ)
      → applied new worth rs bytes ≡ applied new other rs bytes
  applied_same new worth other [] h bytes = refl
  applied_same new worth other (r ∷ rs) (e, h) bytes =
      ap (λ v. applied new worth rs (patched_at (new r.place) r.kind v bytes)) e ∙ applied_same new worth other rs h (patched_at (new r.place) r.kind (other r) bytes)

  worth_same : (i : InputSection) (rs : List Relocation) → AllByRecursion (λ r. value outer s os i r ≡ value outer t os i r) rs
      → AllByRecursion (λ r. unwrap_or (value outer s os i r) (pos 0) ≡ unwrap_or (value outer t os i r) (pos 0)) rs
  worth_same i [] h = tt
  worth_same i (r ∷ rs) (e, h) = (ap (λ v. unwrap_or v (pos 0)) e, worth_same i rs h)

  pub bytes_same : (i : InputSection) → StartsSame s t i → ValuesSame i → linked_bytes outer s os i ≡ linked_bytes outer t os i
  bytes_same i same values =
      ap (λ n. applied (new_offset (moves n i.section)) (λ r. unwrap_or (value outer s os i r) (pos 0)) i.section.relocations (kept 0 (moves n i.section) (initial_bytes i.section.contents))) same
      ∙ applied_same (new_offset (moves (start_of t i) i.section)) (λ r. unwrap_or (value outer s os i r) (pos 0)) (λ r. unwrap_or (value outer t os i r) (pos 0)) i.section.relocations
      (worth_same i i.section.relocations values) (kept 0 (moves (start_of t i) i.section) (initial_bytes i.section.contents))
