-- What holds of each file, with its object, holds of what its symbols define for all files.

use Rattle.std.proofs.Common.{◌≡◌, ℕ, suc, Bool, true, false, cond, Some, List, [], ◌∷◌}
use Rattle.std.specs.Prelude.{⊤, filter, bytes_eq, if◌then◌else◌}
use Rattle.std.specs.List.{AllByRecursion}
use Rattle.rv_list_laws.proofs.EachLemmas.{each_append}
use Rattle.rv_list_laws.proofs.FindLemmas.{each_found}
use Rattle.rv_object_laws.specs.declared.symbol.Binding.{Binding}
use Rattle.rv_object_laws.specs.Object.{Symbol, Object}
use Rattle.rv_object_laws.specs.Bindings.{is_global, is_weak, is_shared}
use Rattle.rv_link_laws.specs.Names.{Export, is_export, exports_in, exports_from, exports_where, is_chosen, chosen_exports, candidates, chosen}

module _ (P : ℕ → Object → Type 0) where
  -- files from a number on
  abbrev pub OfFiles : ℕ → List Object → Type 0
  OfFiles file [] = ⊤
  OfFiles file (o ∷ os) = P file o × OfFiles (suc file) os

  abbrev pub OfExport : Export → Type 0
  OfExport e = P e.file e.object

  in_symbols : (test : Binding → Bool) (file : ℕ) (o : Object) (index : ℕ) (ss : List Symbol) → P file o → AllByRecursion OfExport (exports_in test file o index ss)
  in_symbols test file o index [] own = tt
  in_symbols test file o index (s ∷ ss) own = by (is_export test s) (in_symbols test file o (suc index) ss own)
    where
      by : (b : Bool) → AllByRecursion OfExport (exports_in test file o (suc index) ss)
          → AllByRecursion OfExport (if b then record { file = file; object = o; index = index; symbol = s } ∷ exports_in test file o (suc index) ss else exports_in test file o (suc index) ss)
      by true more = (own, more)
      by false more = more

  in_files : (test : Binding → Bool) (file : ℕ) (os : List Object) → OfFiles file os → AllByRecursion OfExport (exports_from test file os)
  in_files test file [] h = tt
  in_files test file (o ∷ os) (own, h) =
      each_append OfExport (exports_in test file o 0 o.symbols) (exports_from test (suc file) os) (in_symbols test file o 0 o.symbols own) (in_files test (suc file) os h)

  kept : (test : Export → Bool) (es : List Export) → AllByRecursion OfExport es → AllByRecursion OfExport (filter test es)
  kept test [] h = tt
  kept test (x ∷ es) (own, h) = by (test x) (kept test es h)
    where
      by : (b : Bool) → AllByRecursion OfExport (filter test es) → AllByRecursion OfExport (cond b (x ∷ filter test es) (filter test es))
      by true more = (own, more)
      by false more = more

  module _ (os : List Object) (files : OfFiles 1 os) where
    -- what a name means
    pub of_chosen : (name : List ℕ) (e : Export) → chosen os name ≡ Some e → P e.file e.object
    of_chosen name e is =
        each_found OfExport (λ x. bytes_eq x.symbol.name name) (candidates os) e
        (each_append OfExport (exports_where is_global os) (exports_where is_weak os) (in_files is_global 1 os files) (in_files is_weak 1 os files)) is

    -- what names mean
    pub all_chosen : AllByRecursion OfExport (chosen_exports os)
    all_chosen = kept (is_chosen os) (exports_where is_shared os) (in_files is_shared 1 os files)
