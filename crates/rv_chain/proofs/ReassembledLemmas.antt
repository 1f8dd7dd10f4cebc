-- That the executable of a raw listing has the code that it lists.

use Rattle.std.proofs.Common.{◌≡◌, ℕ, ◌+◌, ◌-◌, ◌<◌, Bool, true, false, cond, List, [], ◌∷◌, ◌++◌, length, length-append, map, refl, sym, ap, ◌∙◌, subst, arith}
use Rattle.std.specs.Prelude.{◌==◌, not, filter, flat_map}
use Rattle.std.specs.List.{AllByRecursion}
use Rattle.std.proofs.lemmas.Bool.{ne_eqb}
use Rattle.std.proofs.lemmas.List.{append-nil}
use Rattle.rv_image_laws.specs.Segment.{Segment}
use Rattle.rv_image_laws.specs.ImageOf.{ImageOf}
use Rattle.rv_image_laws.specs.Linked.{Linked, IsLaidOut}
use Rattle.rv_image_laws.specs.Executable.{Part, segment_of_part, has_memory, exe_of, linked_image}
use Rattle.rv_image.proofs.LoadedAgainLemmas.{reload_image}
use Rattle.rv_listing_laws.specs.declared.code.Code.{Code}
use Rattle.rv_listing_laws.specs.declared.code.Code.TheVariants.{Word, Parcel}
use Rattle.rv_listing_laws.specs.Raw.{raw_bytes, is_executable}
use Rattle.rv_chain_laws.specs.Headline.{AllRead}
use Rattle.rv_raw_theorems.specs.Reassembles.{RawListingsReassemble}
use Rattle.rv_chain_laws.specs.Building.{IsProgramFrom}
use Rattle.rv_chain.specs.Reassembled.{Reassembles}

-- ---- a listing has an instruction, and so its segment has bytes

code_some : (code : Code) (rest : List ℕ) → 0 < length (raw_bytes code ++ rest)
code_some (Word i) rest = let e : length (raw_bytes (Word i) ++ rest) ≡ 4 + length rest = length-append (raw_bytes (Word i)) rest in omega (arith, e)
code_some (Parcel c) rest = let e : length (raw_bytes (Parcel c) ++ rest) ≡ 2 + length rest = length-append (raw_bytes (Parcel c)) rest in omega (arith, e)

codes_some : (before after : List Code) → 0 < length after → 0 < length (flat_map raw_bytes (before ++ after))
codes_some [] [] h = absurd (let no : 0 < 0 = h in omega arith)
codes_some [] (code ∷ after) h = code_some code (flat_map raw_bytes after)
codes_some (code ∷ before) after h = code_some code (flat_map raw_bytes (before ++ after))

-- ---- of the parts of an executable the first alone is executable

abbrev segments : List Part → List Segment
segments ps = map segment_of_part (filter has_memory ps)

none_runs : (ps : List Part) → AllByRecursion (λ p. is_executable (segment_of_part p) ≡ false) ps → filter is_executable (segments ps) ≡ []
none_runs [] h = refl
none_runs (p ∷ ps) (one, h) = by (has_memory p) (none_runs ps h)
  where
    by : (b : Bool) → filter is_executable (segments ps) ≡ [] → filter is_executable (map segment_of_part (cond b (p ∷ filter has_memory ps) (filter has_memory ps))) ≡ []
    by true rest = ap (λ b. cond b (segment_of_part p ∷ filter is_executable (segments ps)) (filter is_executable (segments ps))) one ∙ rest
    by false rest = rest

one_runs : (p : Part) (ps : List Part) → has_memory p ≡ true → is_executable (segment_of_part p) ≡ true → AllByRecursion (λ q. is_executable (segment_of_part q) ≡ false) ps
    → filter is_executable (segments (p ∷ ps)) ≡ segment_of_part p ∷ []
one_runs p ps memory runs rest =
    ap (λ b. filter is_executable (map segment_of_part (cond b (p ∷ filter has_memory ps) (filter has_memory ps)))) memory
    ∙ ap (λ b. cond b (segment_of_part p ∷ filter is_executable (segments ps)) (filter is_executable (segments ps))) runs
    ∙ ap (λ l. segment_of_part p ∷ l) (none_runs ps rest)

has_some : (n : ℕ) → 0 < n → not (n + 0 == 0) ≡ true
has_some n h = ap not (ne_eqb (n + 0) 0 (λ e. let none : n + 0 ≡ 0 = e in omega (arith, h, none)))

-- ---- the clause

pub reassembled : RawListingsReassemble → (texts : List (List ℕ)) (start : ℕ) (relax gc : Bool) (l : Linked) (executable : List ℕ) → IsProgramFrom texts start relax gc l → ImageOf executable (linked_image l)
    → Reassembles texts start executable
reassembled law texts start relax gc l executable p loads image text listing one same =
    let both = law image text start relax gc p.sources l listing same (subst (λ ts. AllRead ts p.sources) one p.read) p.linked in
    let some : 0 < length l.text =
    subst (λ bytes. 0 < length bytes) (sym (both.0 ∙ listing.bytes)) (codes_some listing.before listing.after listing.some) in
    let text_part : Part = record { address = l.map.text.start; stored = l.text; zeros = 0; flags = 1 } in
    let others : List Part = record { address = l.map.rodata.start; stored = l.rodata; zeros = 0; flags = 4 }
    ∷ record { address = l.map.data.start; stored = l.data; zeros = l.map.bss.end - l.map.data.end; flags = 6 } ∷ [] in
    let still : AllByRecursion (λ q. is_executable (segment_of_part q) ≡ false) others = (refl, (refl, tt)) in
    record {
      image = linked_image l;
      loads = loads;
      begins = both.1;
      segment = segment_of_part text_part;
      alone = one_runs text_part others (has_some (length l.text) some) refl still;
      stands = p.linked.fits.text.0;
      same = append-nil l.text ∙ both.0;
    }

-- and the executable that is written of it has its image
pub built_again : RawListingsReassemble → (texts : List (List ℕ)) (start : ℕ) (relax gc : Bool) (l : Linked) (executable : List ℕ) → IsLaidOut l → IsProgramFrom texts start relax gc l → executable ≡ exe_of l
    → Reassembles texts start executable
built_again law texts start relax gc l executable laid p written = reassembled law texts start relax gc l executable p (subst (λ file. ImageOf file (linked_image l)) (sym written) (reload_image l laid))
