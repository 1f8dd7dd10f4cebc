-- What a plan tells of calls is what relaxation keeps of them.

use Rattle.std.proofs.Common.{◌≡◌, inl, inr, ℕ, suc, Bool, true, false, cond, List, [], ◌∷◌, ◌++◌, Some, None, map, slice_index, refl, sym, ap, ◌∙◌}
use Rattle.std.specs.Prelude.{◌==◌, ◌&&◌, ◌+◌, nat_lt, Result, Ok, Err, IfOk}
use Rattle.std.specs.List.{flat_map}
use Rattle.rv_isa.specs.declared.kind.Kind.{Kind}
use Rattle.rv_isa.specs.declared.kind.Kind.TheVariants as kinds
use Rattle.rv_size_laws.specs.declared.site.Site.{Site}
use Rattle.rv_size_laws.specs.declared.site.SiteKind.{SiteKind}
use Rattle.rv_size_laws.specs.declared.site.SiteKind.TheVariants.{Call, Padding}
use Rattle.rv_size_laws.specs.Calls.{Offers, site_at, IsGreatestClosed, is_call as is_call_site}
use Rattle.rv_size_laws.specs.Sites.{size_at}
use Rattle.rv_size_laws.proofs.JumpSizesLemmas.{IsJumpSize}
use Rattle.rv_object_laws.specs.Object.{Relocation, Section, Object}
use Rattle.rv_link_laws.specs.Moves.{Move}
use Rattle.rv_link_laws.specs.Inputs.{goes_to_text}
use Rattle.rv_link_laws.specs.CallSites.{is_call, base, sites_of}
use Rattle.rv_link_laws.specs.Shortened.{Sizes, sizes_by, cuts, shortened_kind, shortened_relocation, shortened_text, shortened_section, shortened_sections, shortened_object, shortened_from, shortened}
use Rattle.rv_shorten.specs.declared.section.ShortSection.{ShortSection}
use Rattle.rv_shorten.specs.declared.object.ShortObject.{ShortObject}
use Rattle.rv_cut_laws.specs.Cutting.{cut_kind, cut_relocation}
use Rattle.rv_shorten.specs.Sections.{moves_in, short_section_of, whole_section_of}
use Rattle.rv_shorten.specs.View.{short_object_of, whole_object_of}
use Rattle.rv_relax.specs.declared.told.Counted.TheVariants.{Calls}
use Rattle.rv_relax.specs.Kept.{kept_in}
use Rattle.rv_relax.specs.Told.{bytes_left, as_list, told_at, told_section, told_sections, told_objects}
use Rattle.rv_relax.specs.CallSizes.{call_bytes, calls_in, calls_among, calls_from, whole_calls, AreCallSizes}

-- ---- sizes of calls

of_offered : (k : SiteKind) (n : ℕ) → is_call_site k ≡ true → Offers k n → IsJumpSize n
of_offered (Call call) n is (inl whole) = inl whole
of_offered (Call call) n is (inr (inl jal)) = inr (inl jal)
of_offered (Call call) n is (inr (inr jump)) = inr (inr jump.0)
of_offered (Padding padding) n is h = absurd (cc)

pub sized : (sites : List Site) (kept : List ℕ) → ((i : ℕ) → Offers (site_at sites i).kind (slice_index kept i)) → (offset : ℕ) → IsJumpSize (size_at sites kept offset)
sized [] kept offered offset = inl refl
sized (s ∷ ss) [] offered offset = inl refl
sized (s ∷ ss) (k ∷ kept) offered offset = by (is_call_site s.kind) (s.offset == offset) refl (sized ss kept (λ i. offered (suc i)) offset)
  where
    by : (call here : Bool) → call ≡ is_call_site s.kind → IsJumpSize (size_at ss kept offset) → IsJumpSize (cond (call && here) k (size_at ss kept offset))
    by true true is later = of_offered s.kind k (sym is) (offered 0)
    by true false is later = later
    by false here is later = later

-- ---- one call

whole_kind : (k : Kind) → is_call k ≡ true → bytes_left k ≡ 8
whole_kind kinds.None h = absurd (cc)
whole_kind kinds.Abs32 h = absurd (cc)
whole_kind kinds.Abs64 h = absurd (cc)
whole_kind kinds.Branch h = absurd (cc)
whole_kind kinds.Jal h = absurd (cc)
whole_kind kinds.Call h = refl
whole_kind kinds.CallPlt h = refl
whole_kind kinds.PcrelHi20 h = absurd (cc)
whole_kind kinds.PcrelLo12I h = absurd (cc)
whole_kind kinds.PcrelLo12S h = absurd (cc)
whole_kind kinds.Hi20 h = absurd (cc)
whole_kind kinds.Lo12I h = absurd (cc)
whole_kind kinds.Lo12S h = absurd (cc)
whole_kind kinds.Add8 h = absurd (cc)
whole_kind kinds.Add16 h = absurd (cc)
whole_kind kinds.Add32 h = absurd (cc)
whole_kind kinds.Add64 h = absurd (cc)
whole_kind kinds.Sub8 h = absurd (cc)
whole_kind kinds.Sub16 h = absurd (cc)
whole_kind kinds.Sub32 h = absurd (cc)
whole_kind kinds.Sub64 h = absurd (cc)
whole_kind kinds.Align h = absurd (cc)
whole_kind kinds.RvcBranch h = absurd (cc)
whole_kind kinds.RvcJump h = absurd (cc)
whole_kind kinds.Relax h = absurd (cc)
whole_kind kinds.Sub6 h = absurd (cc)
whole_kind kinds.Set6 h = absurd (cc)
whole_kind kinds.Set8 h = absurd (cc)
whole_kind kinds.Set16 h = absurd (cc)
whole_kind kinds.Set32 h = absurd (cc)
whole_kind kinds.Pcrel32 h = absurd (cc)

-- the kind of a call that keeps so many bytes
kept_bytes : (k : Kind) (n : ℕ) → is_call k ≡ true → IsJumpSize n → bytes_left (cond (true && nat_lt n 8) (cond (n == 2) kinds.RvcJump kinds.Jal) k) ≡ n
kept_bytes k n is (inl whole) = ap (λ m. bytes_left (cond (true && nat_lt m 8) (cond (m == 2) kinds.RvcJump kinds.Jal) k)) whole ∙ whole_kind k is ∙ sym whole
kept_bytes k n is (inr (inl jal)) = ap (λ m. bytes_left (cond (true && nat_lt m 8) (cond (m == 2) kinds.RvcJump kinds.Jal) k)) jal ∙ sym jal
kept_bytes k n is (inr (inr jump)) = ap (λ m. bytes_left (cond (true && nat_lt m 8) (cond (m == 2) kinds.RvcJump kinds.Jal) k)) jump ∙ sym jump

one : (sizes : Sizes) (cut kept : List Move) (r : Relocation) → IsJumpSize (sizes r.place) → cut_kind cut r ≡ shortened_kind sizes r → as_list (told_at Calls cut kept r) ≡ call_bytes sizes r
one sizes cut kept r size same = by (is_call r.kind) refl
  where
    by : (call : Bool) → call ≡ is_call r.kind → as_list (cond call (Some (bytes_left (cut_kind cut r))) None) ≡ cond call (sizes r.place ∷ []) []
    by false is = refl
    by true is =
        let kind : shortened_kind sizes r ≡ cond (true && nat_lt (sizes r.place) 8) (cond (sizes r.place == 2) kinds.RvcJump kinds.Jal) r.kind = ap (λ b. cond (b && nat_lt (sizes r.place) 8) (cond (sizes r.place == 2) kinds.RvcJump kinds.Jal) r.kind) (sym is) in
        ap (λ n. n ∷ []) (ap bytes_left (same ∙ kind) ∙ kept_bytes r.kind (sizes r.place) (sym is) size)

-- ---- a section

-- the calls among relocations, where each has the kind of its size
each : (sizes : Sizes) (cut kept : List Move) (rs : List Relocation) → ((place : ℕ) → IsJumpSize (sizes place)) → map (cut_kind cut) rs ≡ map (shortened_kind sizes) rs
    → flat_map (λ r. as_list (told_at Calls cut kept r)) rs ≡ flat_map (call_bytes sizes) rs
each sizes cut kept [] size same = refl
each sizes cut kept (r ∷ rs) size same =
    let first : cut_kind cut r ≡ shortened_kind sizes r = cc in
    let rest : map (cut_kind cut) rs ≡ map (shortened_kind sizes) rs = cc in
    ap (λ l. l ++ flat_map (λ q. as_list (told_at Calls cut kept q)) rs) (one sizes cut kept r (size r.place) first)
    ∙ ap (λ l. call_bytes sizes r ++ l) (each sizes cut kept rs size rest)

section_told : (sizes : Sizes) (s : ShortSection) → ((place : ℕ) → IsJumpSize (sizes place))
    → (goes_to_text (whole_section_of s) ≡ true → map (cut_kind (moves_in s)) (whole_section_of s).relocations ≡ map (shortened_kind sizes) (whole_section_of s).relocations)
    → told_section Calls s ≡ calls_in sizes (whole_section_of s)
section_told sizes s size same = by (goes_to_text (whole_section_of s)) refl
  where
    by : (text : Bool) → text ≡ goes_to_text (whole_section_of s)
        → cond text (flat_map (λ r. as_list (told_at Calls (moves_in s) (kept_in s) r)) (whole_section_of s).relocations) [] ≡ cond text (flat_map (call_bytes sizes) (whole_section_of s).relocations) []
    by false is = refl
    by true is = each sizes (moves_in s) (kept_in s) (whole_section_of s).relocations size (same (sym is))

-- ---- calls that are shortened

kinds_left : (sizes : Sizes) (cut ms : List Move) (rs : List Relocation) → map (cut_relocation cut) rs ≡ map (shortened_relocation sizes ms) rs → map (cut_kind cut) rs ≡ map (shortened_kind sizes) rs
kinds_left sizes cut ms [] same = refl
kinds_left sizes cut ms (r ∷ rs) same =
    let first : cut_relocation cut r ≡ shortened_relocation sizes ms r = cc in
    let rest : map (cut_relocation cut) rs ≡ map (shortened_relocation sizes ms) rs = cc in
    ap (λ (q : Relocation). q.kind ∷ map (cut_kind cut) rs) first ∙ ap (λ l. shortened_kind sizes r ∷ l) (kinds_left sizes cut ms rs rest)

shortened_one : (sizes : Sizes) (s : ShortSection) → ((place : ℕ) → IsJumpSize (sizes place)) → short_section_of s ≡ shortened_section sizes (whole_section_of s) → told_section Calls s ≡ calls_in sizes (whole_section_of s)
shortened_one sizes s size same = section_told sizes s size (λ text.
    kinds_left sizes (moves_in s) (cuts sizes (whole_section_of s)) (whole_section_of s).relocations
    (ap (λ (q : Section). q.relocations) (same ∙ ap (λ b. cond b (shortened_text sizes (whole_section_of s)) (whole_section_of s)) text)))

shortened_sections_told : (sizes : ℕ → Sizes) (index : ℕ) (ss : List ShortSection) → ((index place : ℕ) → IsJumpSize (sizes index place)) → map short_section_of ss ≡ shortened_sections sizes index (map whole_section_of ss)
    → told_sections Calls ss ≡ calls_among sizes index (map whole_section_of ss)
shortened_sections_told sizes index [] size same = refl
shortened_sections_told sizes index (s ∷ ss) size same =
    let first : short_section_of s ≡ shortened_section (sizes index) (whole_section_of s) = cc in
    let rest : map short_section_of ss ≡ shortened_sections sizes (suc index) (map whole_section_of ss) = cc in
    ap (λ l. l ++ told_sections Calls ss) (shortened_one (sizes index) s (size index) first)
    ∙ ap (λ l. calls_in (sizes index) (whole_section_of s) ++ l) (shortened_sections_told sizes (suc index) ss size rest)

shortened_told : (sizes : ℕ → ℕ → Sizes) (file : ℕ) (os : List ShortObject) → ((file index place : ℕ) → IsJumpSize (sizes file index place)) → map short_object_of os ≡ shortened_from sizes file (map whole_object_of os)
    → told_objects Calls os ≡ calls_from sizes file (map whole_object_of os)
shortened_told sizes file [] size same = refl
shortened_told sizes file (o ∷ os) size same =
    let first : short_object_of o ≡ shortened_object (sizes file) (whole_object_of o) = cc in
    let rest : map short_object_of os ≡ shortened_from sizes (suc file) (map whole_object_of os) = cc in
    ap (λ l. l ++ told_objects Calls os) (shortened_sections_told (sizes file) 0 o.sections.items (size file) (ap (λ (x : Object). x.sections) first))
    ∙ ap (λ l. calls_among (sizes file) 0 (whole_object_of o).sections ++ l) (shortened_told sizes (suc file) os size rest)

-- ---- calls as they were

whole_one_kind : (r : Relocation) → r.kind ≡ shortened_kind (λ place. 8) r
whole_one_kind r = by (is_call r.kind)
  where
    by : (call : Bool) → r.kind ≡ cond (call && nat_lt 8 8) (cond (8 == 2) kinds.RvcJump kinds.Jal) r.kind
    by true = refl
    by false = refl

kinds_stay : (cut : List Move) (rs : List Relocation) → map (cut_relocation cut) rs ≡ rs → map (cut_kind cut) rs ≡ map (shortened_kind (λ place. 8)) rs
kinds_stay cut [] same = refl
kinds_stay cut (r ∷ rs) same =
    let first : cut_relocation cut r ≡ r = cc in
    let rest : map (cut_relocation cut) rs ≡ rs = cc in
    ap (λ (q : Relocation). q.kind ∷ map (cut_kind cut) rs) first ∙ ap (λ k. k ∷ map (cut_kind cut) rs) (whole_one_kind r)
    ∙ ap (λ l. shortened_kind (λ place. 8) r ∷ l) (kinds_stay cut rs rest)

whole_sections_told : (index : ℕ) (ss : List ShortSection) → map short_section_of ss ≡ map whole_section_of ss → told_sections Calls ss ≡ calls_among (whole_calls 0) index (map whole_section_of ss)
whole_sections_told index [] same = refl
whole_sections_told index (s ∷ ss) same =
    let first : short_section_of s ≡ whole_section_of s = cc in
    let rest : map short_section_of ss ≡ map whole_section_of ss = cc in
    ap (λ l. l ++ told_sections Calls ss) (section_told (λ place. 8) s (λ place. inl refl) (λ text. kinds_stay (moves_in s) (whole_section_of s).relocations (ap (λ (q : Section). q.relocations) first)))
    ∙ ap (λ l. calls_in (λ place. 8) (whole_section_of s) ++ l) (whole_sections_told (suc index) ss rest)

whole_told : (file : ℕ) (os : List ShortObject) → map short_object_of os ≡ map whole_object_of os → told_objects Calls os ≡ calls_from whole_calls file (map whole_object_of os)
whole_told file [] same = refl
whole_told file (o ∷ os) same =
    let first : short_object_of o ≡ whole_object_of o = cc in
    let rest : map short_object_of os ≡ map whole_object_of os = cc in
    ap (λ l. l ++ told_objects Calls os) (whole_sections_told 0 o.sections.items (ap (λ (x : Object). x.sections) first))
    ∙ ap (λ l. calls_among (whole_calls file) 0 (whole_object_of o).sections ++ l) (whole_told (suc file) os rest)

-- ---- what is told

-- where the objects are those of a text
pub told_whole : (os : List Object) (left : List ShortObject) → map whole_object_of left ≡ os → map short_object_of left ≡ os → AreCallSizes false os (told_objects Calls left)
told_whole os left whole same = whole_told 1 left (same ∙ sym whole) ∙ ap (calls_from whole_calls 1) whole

pub told_shortened : (os : List Object) (left : List ShortObject) (kept : List ℕ) → IsGreatestClosed (sites_of os) kept → map whole_object_of left ≡ os → map short_object_of left ≡ shortened kept os → AreCallSizes true os (told_objects Calls left)
told_shortened os left kept greatest whole same =
    let size : (file index place : ℕ) → IsJumpSize (sizes_by os kept file index place) = λ file index place. sized (sites_of os) kept greatest.closed.family.offered (base os file index + place) in (
      kept,
      greatest,
      shortened_told (sizes_by os kept) 1 left size (same ∙ ap (shortened_from (sizes_by os kept) 1) (sym whole)) ∙ ap (calls_from (sizes_by os kept) 1) whole,
    )

-- of a call's value, where there is one, two facts give a third
pub if_both : {A E : Type 0} (r : Result A E) (P Q R : A → Type 0) → ((x : A) → P x → Q x → R x) → IfOk r P → IfOk r Q → IfOk r R
if_both (Ok x) P Q R f p q = f x p q
if_both (Err e) P Q R f p q = tt
