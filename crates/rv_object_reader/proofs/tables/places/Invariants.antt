use Rattle.std.proofs.Common.{◌≡◌, ◌≤◌, None, ◌∷◌, length, filter, map}
use Rattle.rv_object_file_laws.specs.Parts.{is_kept}
use Rattle.rv_object_reader.specs.Found.{place_at, sections_from}
use Rattle.rv_object_reader.proofs.tables.places.Given as goal

-- the places of the sections so far, and how many of these are kept
abbrev pub invariant-loop-earlier : goal.invariant-loop-earlier
invariant-loop-earlier l =
    let file = l.names.view.file.now in record {
      made : l.places.items ≡ None ∷ map (λ s. place_at file s.index) (sections_from file l.earlier 1);
      next : l.next ≡ length (filter (is_kept file) (sections_from file l.earlier 1));
      within : l.next ≤ l.earlier;
    }
