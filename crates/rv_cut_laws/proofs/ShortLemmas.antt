-- What a section keeps where calls are cut out of it.

use Rattle.std.proofs.Common.{◌≡◌, ℕ, ◌+◌, inl, Bool, true, false, cond, nat_le, List, [], ◌∷◌, length, map, refl, sym, ap, ◌∙◌, arith}
use Rattle.std.specs.List.{list_all}
use Rattle.std.proofs.lemmas.Bool.{leb-true, le-leb, eqb-true, and_parts, and_from}
use Rattle.rv_isa.specs.Kinds.{width_of}
use Rattle.rv_object_laws.specs.Object.{Contents, Progbits, Note, Nobits, Relocation, Section, size_of}
use Rattle.rv_object_laws.specs.Valid.{fits_inside, fit_inside, is_padding, are_all_apart, are_paddings}
use Rattle.rv_link_laws.specs.Moves.{Move, new_offset, kept}
use Rattle.rv_link_laws.specs.CallSites.{is_call}
use Rattle.rv_link_laws.specs.Shortened.{shortened_contents}
use Rattle.rv_cut_laws.specs.Cutting.{are_cuts, IsClear, AreCuts, cut_kind, cut_relocation, cut_section}
use Rattle.rv_cut_laws.proofs.CallKindsLemmas.{call_width}
use Rattle.rv_cut_laws.proofs.ShiftsLemmas.{rising, length_kept}
use Rattle.rv_cut_laws.proofs.FieldsLemmas.{all_in, all_mapped, field_stays}
use Rattle.rv_cut_laws.proofs.PaddingsLemmas.{held_stays, all_stay_apart, padding_stays}

-- ---- nothing is cut

none_kind : (r : Relocation) → cut_kind [] r ≡ r.kind
none_kind r = by (is_call r.kind)
  where
    by : (b : Bool) → cond b r.kind r.kind ≡ r.kind
    by true = refl
    by false = refl

none_offset : (n : ℕ) → new_offset [] n ≡ n
none_offset n = omega arith

none_relocation : (r : Relocation) → cut_relocation [] r ≡ r
none_relocation r =
    ap (λ n. record { place = n; kind = cut_kind [] r; symbol = r.symbol; addend = r.addend }) (none_offset r.place)
    ∙ ap (λ k. record { place = r.place; kind = k; symbol = r.symbol; addend = r.addend }) (none_kind r)

none_relocations : (rs : List Relocation) → map (cut_relocation []) rs ≡ rs
none_relocations [] = refl
none_relocations (r ∷ rs) = ap (λ q. q ∷ map (cut_relocation []) rs) (none_relocation r) ∙ ap (λ qs. r ∷ qs) (none_relocations rs)

none_contents : (c : Contents) → shortened_contents [] c ≡ c
none_contents (Progbits bytes) = refl
none_contents (Note bytes) = refl
none_contents (Nobits size) = refl

pub nothing_cut : (s : Section) (ms : List Move) → ms ≡ [] → cut_section ms s ≡ s
nothing_cut s ms is =
    ap (λ l. cut_section l s) is
    ∙ ap (λ c. record s { contents = c; relocations = map (cut_relocation []) s.relocations }) (none_contents s.contents)
    ∙ ap (λ rs. record s { relocations = rs }) (none_relocations s.relocations)

-- ---- sizes

-- a section without bytes in the file has no call
pub none_in_zeros : (size : ℕ) (s : Section) (ms : List Move) → fit_inside (Nobits size) s.relocations ≡ true → AreCuts s ms → ms ≡ []
none_in_zeros size s [] fit cuts = refl
none_in_zeros size s (m ∷ ms) fit cuts =
    let call = cuts.calls m (inl refl) in
    let none = eqb-true (width_of call.0.kind) 0 (all_in (fits_inside (Nobits size)) call.0 s.relocations fit call.1) in
    let eight = call_width call.0.kind call.2 in
    absurd (omega arith)

size_by : (c : Contents) (s : Section) (ms : List Move) → s.contents ≡ c → fit_inside c s.relocations ≡ true → AreCuts s ms → size_of (shortened_contents ms c) ≡ new_offset ms (size_of c)
size_by (Progbits bytes) s ms is fit cuts = length_kept ms bytes (sym (ap (λ c. are_cuts 0 (size_of c) ms) is) ∙ cuts.order)
size_by (Note bytes) s ms is fit cuts = length_kept ms bytes (sym (ap (λ c. are_cuts 0 (size_of c) ms) is) ∙ cuts.order)
size_by (Nobits size) s ms is fit cuts = sym (ap (λ l. new_offset l size) (none_in_zeros size s ms fit cuts) ∙ none_offset size)

pub size_left : (s : Section) (ms : List Move) → fit_inside s.contents s.relocations ≡ true → AreCuts s ms → size_of (shortened_contents ms s.contents) ≡ new_offset ms (size_of s.contents)
size_left s ms fit cuts = size_by s.contents s ms refl fit cuts

-- ---- each fact

fit_one : (size left : ℕ) (ms : List Move) (r : Relocation) → are_cuts 0 size ms ≡ true → IsClear ms r → left ≡ new_offset ms size → nat_le (r.place + width_of r.kind) size ≡ true → nat_le (new_offset ms r.place + width_of (cut_kind ms r)) left ≡ true
fit_one size left ms r order clear is h =
    let field = field_stays size ms r order clear in
    let up = rising 0 size (r.place + width_of r.kind) size ms order (leb-true (r.place + width_of r.kind) size h) in
    le-leb (new_offset ms r.place + width_of (cut_kind ms r)) left (omega (arith, field, up, is))

fit_by : (c : Contents) (s : Section) (ms : List Move) → s.contents ≡ c → fit_inside c s.relocations ≡ true → AreCuts s ms → fit_inside (shortened_contents ms c) (map (cut_relocation ms) s.relocations) ≡ true
fit_by (Progbits bytes) s ms is fit cuts =
    all_mapped (fits_inside (Progbits bytes)) (fits_inside (Progbits (kept 0 ms bytes))) (cut_relocation ms) s.relocations
    (λ r i h. fit_one (length bytes) (length (kept 0 ms bytes)) ms r (sym (ap (λ c. are_cuts 0 (size_of c) ms) is) ∙ cuts.order) (cuts.clear r i) (size_by (Progbits bytes) s ms is fit cuts) h) fit
fit_by (Note bytes) s ms is fit cuts =
    all_mapped (fits_inside (Note bytes)) (fits_inside (Note (kept 0 ms bytes))) (cut_relocation ms) s.relocations
    (λ r i h. fit_one (length bytes) (length (kept 0 ms bytes)) ms r (sym (ap (λ c. are_cuts 0 (size_of c) ms) is) ∙ cuts.order) (cuts.clear r i) (size_by (Note bytes) s ms is fit cuts) h) fit
fit_by (Nobits size) s ms is fit cuts =
    ap (λ l. fit_inside (Nobits size) (map (cut_relocation l) s.relocations)) (none_in_zeros size s ms fit cuts)
    ∙ ap (fit_inside (Nobits size)) (none_relocations s.relocations) ∙ fit

pub fit_stays : (s : Section) (ms : List Move) → fit_inside s.contents s.relocations ≡ true → AreCuts s ms → fit_inside (shortened_contents ms s.contents) (map (cut_relocation ms) s.relocations) ≡ true
fit_stays s ms fit cuts = fit_by s.contents s ms refl fit cuts

pub paddings_stay : (s : Section) (ms : List Move) (e : Bool) → fit_inside s.contents s.relocations ≡ true → AreCuts s ms → are_paddings e s.contents s.relocations ≡ true
    → are_paddings e (shortened_contents ms s.contents) (map (cut_relocation ms) s.relocations) ≡ true
paddings_stay s ms false fit cuts h =
    let both = and_parts (list_all (is_padding false s.contents) s.relocations) true h in
    and_from (list_all (is_padding false (shortened_contents ms s.contents)) (map (cut_relocation ms) s.relocations)) true
    (all_mapped (is_padding false s.contents) (is_padding false (shortened_contents ms s.contents)) (cut_relocation ms) s.relocations
    (λ r i one. padding_stays s ms (shortened_contents ms s.contents) false r cuts.order (size_left s ms fit cuts) (λ (no_code : false ≡ true). absurd (cc)) one) both.0) refl
paddings_stay s ms true fit cuts h =
    let both = and_parts (list_all (is_padding true s.contents) s.relocations) (are_all_apart s.relocations) h in
    and_from (list_all (is_padding true (shortened_contents ms s.contents)) (map (cut_relocation ms) s.relocations)) (are_all_apart (map (cut_relocation ms) s.relocations))
    (all_mapped (is_padding true s.contents) (is_padding true (shortened_contents ms s.contents)) (cut_relocation ms) s.relocations
    (λ r i one. padding_stays s ms (shortened_contents ms s.contents) true r cuts.order (size_left s ms fit cuts) (λ _. held_stays s ms r cuts both.1 i) one) both.0)
    (all_stay_apart (size_of s.contents) ms s.relocations cuts.order (λ r i. held_stays s ms r cuts both.1 i) both.1)
