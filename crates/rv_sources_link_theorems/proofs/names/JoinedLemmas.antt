-- The map of the objects' program resolves the names of the sources.

use Rattle.std.proofs.Common.{◌≡◌, ℕ, Bool, List, ◌++◌, sym, ap, ◌∙◌, subst, Some}
use Rattle.std.specs.Prelude.{not, filter, codes, option_and_then}
use Rattle.std.specs.List.{AllByRecursion}
use Rattle.rv_map_laws.specs.Globals.{AreDistinct, shown, linker_symbols}
use Rattle.rv_map_laws.specs.Limits.{IsRow}
use Rattle.rv_statement_laws.specs.Statement.{Statement}
use Rattle.rv_source_laws.specs.Program as source
use Rattle.rv_source_laws.specs.Program.{Program, program}
use Rattle.rv_source_laws.specs.Resolves.{Resolves, definitions, shown_symbols, export_address, run_start}
use Rattle.rv_image_laws.specs.Linked.{Linked}
use Rattle.rv_object_laws.specs.Object.{Object}
use Rattle.rv_link_laws.specs.declared.bounds.Ground.{Ground}
use Rattle.rv_link_laws.specs.Names as objects
use Rattle.rv_link_laws.specs.IsLinkOf.{IsLinkOf}
use Rattle.rv_sources_link_theorems.proofs.sections.FilesLemmas.{files, rows_ours, statements_ours}
use Rattle.rv_sources_link_theorems.proofs.names.PairLemmas.{AreMade, AreChosenAlike, AreGiven}
use Rattle.rv_sources_link_theorems.proofs.names.PairedLemmas.{same_flat}
use Rattle.rv_sources_link_theorems.proofs.names.AlikeLemmas.{chosen_alike, any_given}
use Rattle.rv_sources_link_theorems.proofs.names.MadeLemmas.{PairsOf, all_made}
use Rattle.rv_sources_link_theorems.proofs.names.GlobalsLemmas.{AddressAlike, addresses_alike}
use Rattle.rv_sources_link_theorems.proofs.names.EntryLemmas.{StartsAlike, starts_alike, entry_alike}
use Rattle.rv_sources_link_theorems.proofs.moves.ShrunkLemmas.{AreObjectsOf, AreMasked}

module _ (sources : List (List Statement)) (os : List Object) (bounds : Ground) (l : Linked) (h : AreObjectsOf sources os) (masks : AreMasked l.map.drops 1 sources os h) (link : IsLinkOf os bounds l) where
  abbrev p : Program
  p = program sources l.map

  alike : (R : source.Export → objects.Export → Type 0) → PairsOf R p link.starts → AreChosenAlike R p os
  alike R pairs =
      chosen_alike R p os
      (subst (λ es. AreMade R p 1 os es) (sym (statements_ours sources os l.map link.starts h masks link.rows))
      (all_made R p link.starts pairs 1 sources os h (files sources os l.map link.starts h masks link.rows)
      (subst (λ rs. AllByRecursion IsRow rs) (rows_ours sources os l.map link.starts h masks link.rows) link.readable.rows)))

  addresses : AreChosenAlike (AddressAlike p link.starts) p os
  addresses = alike (AddressAlike p link.starts) (λ file ss o is f low. addresses_alike p link.starts file ss o is f low)

  entries : AreChosenAlike (StartsAlike link.starts) p os
  entries = alike (StartsAlike link.starts) (λ file ss o is f low. starts_alike p link.starts file ss o is f low)

  pub given : AreGiven p os
  given = any_given (AddressAlike p link.starts) p os addresses

  both_shown : (x : source.Export) (e : objects.Export) → AddressAlike p link.starts x e → shown x.name (export_address p x) ≡ shown e.symbol.name (objects.export_address link.starts e)
  both_shown x e (name, address) = ap (λ n. shown n (export_address p x)) name ∙ ap (shown e.symbol.name) address

  definitions_same : objects.globals_of link.starts os ≡ definitions sources l.map
  definitions_same = sym (same_flat (AddressAlike p link.starts) (λ x. shown x.name (export_address p x)) (λ e. shown e.symbol.name (objects.export_address link.starts e))
      both_shown (source.chosen_exports p) (objects.chosen_exports os) addresses.shown)

  linkers_same : objects.shown_linker_symbols os l.map ≡ shown_symbols sources l.map
  linkers_same = ap (λ (f : List ℕ → Bool). filter (λ g. not (f g.name)) (linker_symbols l.map)) (λ i name. sym (given name) i)

  entry : option_and_then run_start (source.chosen p (codes "_start")) ≡ Some l.map.entry
  entry =
      entry_alike link.starts (source.chosen p (codes "_start")) (objects.chosen os (codes "_start")) (entries.chosen (codes "_start"))
      ∙ link.entry

  pub resolves : Resolves sources l.map
  resolves = record {
    globals = link.globals ∙ ap (λ g. g ++ objects.shown_linker_symbols os l.map) definitions_same ∙ ap (λ g. definitions sources l.map ++ g) linkers_same;
    once = subst AreDistinct (sym addresses.globals) link.once;
    entry = entry;
    even = link.even;
  }
