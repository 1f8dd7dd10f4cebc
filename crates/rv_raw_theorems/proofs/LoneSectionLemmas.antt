-- A section of code without paddings, alone in its object, stands at the start of the text as it is.

use Rattle.std.proofs.Common.{◌≡◌, ℕ, ◌+◌, ◌-◌, ◌*◌, ◌/◌, ◌%◌, ◌^◌, ◌≤◌, Bool, true, false, not, List, [], ◌∷◌, Some, None, refl, ◌∙◌, ap, subst, arith}
use Rattle.std.specs.Prelude.{◌&&◌, nat_lt, max, if◌then◌else◌, filter}
use Rattle.std.specs.List.{AllByRecursion, slice_get}
use Rattle.rv_isa.specs.declared.kind.Kind.{Kind}
use Rattle.rv_isa_laws.specs.Platform.{stack_start, memory_limit}
use Rattle.rv_size_laws.specs.Alignment.{aligned}
use Rattle.rv_object_laws.specs.Object.{Relocation, Section, Symbol, Object, size_of}
use Rattle.rv_object_laws.specs.Valid.{is_align}
use Rattle.rv_link_laws.specs.Inputs.{Starts, goes_to_text, raised, begins_at, inputs, Stand}
use Rattle.rv_link_laws.specs.IsLinkOf.{is_loaded}
use Rattle.rv_link_laws.specs.Moves.{full_padding, has_padding, by_place, alignments_of, plan, moves, new_offset}
use Rattle.rv_link_laws.specs.Names.{Outer, is_sure, is_sure_by, offset_address, defined_address, symbol_address}
use Rattle.rv_link_laws.specs.TextStart.{IsTextStart}
use Rattle.rv_raw_theorems.proofs.OperandRangesLemmas.{leads}
use Rattle.rv_raw_theorems.proofs.FieldsLemmas.{IsLeading}
use Rattle.rv_raw_theorems.proofs.LeavesLemmas.{input, inputs_one}
use Rattle.rv_raw_theorems.proofs.SymbolsLemmas.{IsEntered}

-- an object with one section of code, all of whose relocations lead from their places, and which fits
pub record IsSimple (o : Object) (start : ℕ) : Type 0 where
  pub section : Section
  pub alone : o.sections ≡ section ∷ []
  pub loaded : section.loaded ≡ true
  pub executable : section.executable ≡ true
  pub alignment : section.alignment ≡ 2
  pub leading : AllByRecursion (IsLeading o.symbols) section.relocations
  pub entered : IsEntered o
  pub begins : IsTextStart start
  pub fits : start + size_of section.contents ≤ stack_start
  pub small : size_of section.contents ≤ memory_limit

never_align : (k : Kind) → leads k ≡ true → is_align k ≡ false
never_align k h = grind arith

no_paddings : (symbols : List Symbol) (rs : List Relocation) → AllByRecursion (IsLeading symbols) rs → filter has_padding rs ≡ []
no_paddings symbols [] h = refl
no_paddings symbols (r ∷ rs) (one, h) =
    ap (λ b. if b && nat_lt 0 (full_padding r) then r ∷ filter has_padding rs else filter has_padding rs) (never_align r.kind one.leads_there) ∙ no_paddings symbols rs h

module _ (o : Object) (start : ℕ) (h : IsSimple o start) where
  abbrev pub x : Section
  x = h.section

  abbrev pub os : List Object
  os = o ∷ []

  pub text : goes_to_text h.section ≡ true
  text = ap (λ b. b && h.section.executable) h.loaded ∙ h.executable

  pub unaligned : alignments_of h.section ≡ []
  unaligned = by (h.section.loaded && h.section.executable)
    where
      by : (b : Bool) → (if b then by_place (filter has_padding h.section.relocations) else []) ≡ []
      by true = ap by_place (no_paddings o.symbols h.section.relocations h.leading)
      by false = refl

  pub unmoved : (base : ℕ) → moves base h.section ≡ []
  unmoved base = ap (plan base 0) unaligned

  pub stays : (base offset : ℕ) → new_offset (moves base h.section) offset ≡ offset
  stays base offset = ap (λ ms. new_offset ms offset) (unmoved base) ∙ (let e : offset - 0 ≡ offset = omega arith in e)

  pub begins_even : begins_at h.section ≡ 2
  begins_even =
      ap (λ rs. raised rs (max (if goes_to_text h.section then 2 else 1) h.section.alignment)) unaligned
      ∙ ap (λ b. max (if b then 2 else 1) h.section.alignment) text ∙ ap (max 2) h.alignment

  pub at_start : aligned (begins_at h.section) start ≡ start
  at_start = ap (λ n. aligned n start) begins_even ∙ (let page = h.begins.0 in let e : (start + (2 - 1)) / 2 * 2 ≡ start = omega (arith, page) in e)

  pub text_inputs : inputs goes_to_text (o ∷ []) ≡ input o h.section h.alone ∷ []
  text_inputs = inputs_one o h.section h.alone goes_to_text text

  pub loaded_inputs : inputs is_loaded (o ∷ []) ≡ input o h.section h.alone ∷ []
  loaded_inputs = inputs_one o h.section h.alone is_loaded h.loaded

  -- where the text's sections stand
  pub stands : (starts : Starts) → Stand starts start (inputs goes_to_text (o ∷ [])) → starts 1 0 ≡ start
  stands starts s = (subst (Stand starts start) text_inputs s).0 ∙ at_start

  -- ---- symbols

  pub sure_to : (r : Relocation) (l : IsLeading o.symbols r) → is_sure l.to ≡ true
  sure_to r l = ap (is_sure_by l.to.binding) l.definition ∙ ap not l.sure

  pub address_in : (starts : ℕ → ℕ) (offset : ℕ) → offset_address (starts 0) offset (slice_get o.sections 0) ≡ Some ((starts 0 + offset) % 2 ^ 64)
  address_in starts offset =
      ap (λ ss. offset_address (starts 0) offset (slice_get ss 0)) h.alone
      ∙ ap (λ b. if b then Some ((starts 0 + new_offset (moves (starts 0) h.section) offset) % 2 ^ 64) else None) h.loaded
      ∙ ap (λ n. Some ((starts 0 + n) % 2 ^ 64)) (stays (starts 0) offset)

  pub address_of : (outer : Outer) (starts : ℕ → ℕ) (r : Relocation) (l : IsLeading o.symbols r) → symbol_address outer starts o l.to ≡ Some ((starts 0 + r.place) % 2 ^ 64)
  address_of outer starts r l =
      ap (λ b. if b then defined_address starts o l.to.definition else outer l.to) (sure_to r l) ∙ ap (defined_address starts o) l.definition ∙ address_in starts r.place
