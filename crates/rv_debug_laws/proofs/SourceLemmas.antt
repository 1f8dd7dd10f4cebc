-- A name that is written is found again.

use Rattle.std.proofs.Common.{◌≡◌, ℕ, ◌+◌, ◌==◌, true, false, not, ◌||◌, List, [], ◌∷◌, ◌++◌, length, drop, Option, None, Some, refl, sym, ap, ◌∙◌, arith}
use Rattle.std.proofs.lemmas.Bool.{cond-false}
use Rattle.std.proofs.lemmas.List.{drop-drop, drop_at, length-append}
use Rattle.rv_object_laws.specs.Object.{Object, Section}
use Rattle.rv_object_file_laws.specs.FirstFault.{first_fault}
use Rattle.rv_object_file_laws.specs.ObjectOf.{ObjectOf}
use Rattle.rv_object_file_laws.proofs.StringsLemmas.{before_zero-name}
use Rattle.rv_debug_laws.specs.SourceNames.{SourceName, IsSourceName, name_bytes, name_by, name_behind, name_after, said_source, source_behind, source_section, with_source, last_source, name_of_section, source_by, source_of}

-- the name of its bytes
module _ (name : SourceName) (good : IsSourceName name) where
  abbrev rest : List ℕ
  rest = name.path ++ 0 ∷ []

  behind : drop (length name.directory + 1) (name_bytes name) ≡ rest
  behind = sym (drop-drop 1 (length name.directory) (name_bytes name)) ∙ ap (drop 1) (drop_at name.directory (0 ∷ rest) (length name.directory) refl)

  is_wrong : (length name.directory == 0 || length name.path == 0 || not (length rest == length name.path + 1)) ≡ false
  is_wrong = grind (arith, good.placed, good.called, length-append name.path (0 ∷ []))

  pub name_read : said_source (name_bytes name) ≡ Some name
  name_read =
      ap (name_after (name_bytes name)) (before_zero-name name.directory rest good.directory)
      ∙ ap (name_behind name.directory) behind
      ∙ ap (name_by name.directory rest) (before_zero-name name.path [] good.path)
      ∙ cond-false _ _ _ is_wrong

-- the last of two lists
last_append : (before : Option (List ℕ)) (xs ys : List Section) → last_source before (xs ++ ys) ≡ last_source (last_source before xs) ys
last_append before [] ys = refl
last_append before (x ∷ xs) ys = last_append (source_behind before x) xs ys

pub source_found : (file : List ℕ) (o : Object) (name : SourceName) → first_fault file ≡ None → ObjectOf file (with_source name o) → IsSourceName name →
    source_of file ≡ Some name
source_found file o name fine object good =
    ap (source_by file) fine
    ∙ ap (λ ss. name_of_section (last_source None ss)) (sym object.sections)
    ∙ ap name_of_section (last_append None o.sections (source_section name ∷ []))
    ∙ name_read name good
