-- A run of a raw listing's object can begin, at an even address.

use Rattle.std.proofs.Common.{◌≡◌, ℕ, ◌+◌, ◌%◌, ◌^◌, true, false, [], ◌∷◌, Some, None, sym, ◌∙◌, ap, arith, inl, inr}
use Rattle.std.specs.Prelude.{if◌then◌else◌, option_and_then}
use Rattle.rv_object_laws.specs.Object.{Object}
use Rattle.rv_link_laws.specs.Ground.{usual}
use Rattle.rv_link_laws.specs.Inputs.{Starts}
use Rattle.rv_link_laws.specs.Names.{begins_run, run_start, export_address, entry_of}
use Rattle.rv_link_laws.specs.Entry.{is_entry, has_entry}
use Rattle.rv_link_laws.specs.Refusals.{IsOddEntry, LacksEntry}
use Rattle.rv_link_laws.specs.Layout.{Layout, IsLayout}
use Rattle.rv_raw_theorems.proofs.LeavesLemmas.{begins}
use Rattle.rv_raw_theorems.proofs.LoneSectionLemmas.{IsSimple, text, stands, address_in}
use Rattle.rv_raw_theorems.proofs.SymbolsLemmas.{entry_at}

module _ (o : Object) (start : ℕ) (h : IsSimple o start) where
  runs : begins_run (entry_at o h.entered.index h.entered.offset) ≡ true
  runs = begins o h.section h.alone (text o start h) h.entered

  pub some_entry : has_entry (o ∷ []) ≡ true
  some_entry = ap is_entry h.entered.means ∙ runs

  entry_address : (starts : Starts) → entry_of starts (o ∷ []) ≡ Some ((starts 1 0 + h.entered.offset) % 2 ^ 64)
  entry_address starts =
      ap (option_and_then (run_start starts)) h.entered.means
      ∙ ap (λ b. if b then export_address starts (entry_at o h.entered.index h.entered.offset) else None) runs
      ∙ address_in o start h (starts 1) h.entered.offset

  not_odd : (p : Layout) → IsLayout (o ∷ []) (usual start) p → IsOddEntry (o ∷ []) p → ⊥
  not_odd p placed odd =
      let at = stands o start h p.starts placed.text.1 in
      let page = h.begins.0 in
      let even = h.entered.even in
      odd ((p.starts 1 0 + h.entered.offset) % 2 ^ 64) (entry_address p.starts) (omega (arith, at, page, even))

  pub has_it : LacksEntry (o ∷ []) (usual start) → ⊥
  has_it (inl none) = absurd (let clash : true ≡ false = sym some_entry ∙ none in cc)
  has_it (inr (p, placed, odd)) = not_odd p placed odd
