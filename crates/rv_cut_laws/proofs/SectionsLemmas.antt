-- What the walk along the sites makes of a section of text is what the definition says.

use Rattle.std.proofs.Common.{◌≡◌, ℕ, suc, ◌+◌, ◌-◌, ◌%◌, ◌<◌, ◌≤◌, ◌⊎◌, inl, inr, Bool, true, false, cond, ◌&&◌, nat_lt, List, [], ◌∷◌, ◌++◌, Some, length, map, take, refl, sym, ap, subst, ◌∙◌, arith}
use Rattle.std.specs.Prelude.{◌==◌, filter}
use Rattle.std.proofs.lemmas.Bool.{ltb-true, lt-ltb, le-ltb, and_parts, and_from, or_right, true≢false}
use Rattle.rv_list_laws.proofs.TruthLemmas.{and_three}
use Rattle.rv_size_laws.specs.Sites.{size_at}
use Rattle.rv_isa.specs.declared.kind.Kind.{Kind}
use Rattle.rv_isa.specs.declared.kind.Kind.TheVariants as kinds
use Rattle.rv_isa.specs.Kinds.{width_of}
use Rattle.rv_isa_laws.specs.Bytes.{little_endian}
use Rattle.rv_size_laws.specs.declared.site.Site.{Site}
use Rattle.rv_size_laws.specs.Calls.{InOrder, is_call as is_call_site}
use Rattle.rv_object_laws.specs.Object.{Relocation, Section, Object, size_of, stored}
use Rattle.rv_link_laws.specs.Moves.{Move, new_offset, has_padding}
use Rattle.rv_link_laws.specs.Inputs.{InputSection, goes_to_text}
use Rattle.rv_link_laws.specs.CallSites.{is_call, meets, link_register, is_permitted, may_change, in_order, changes, site_of}
use Rattle.rv_link_laws.specs.Shortened.{Sizes, empty_jump, empty_jal, short_call, is_shortened, cut, cuts, shortened_kind, shortened_relocation, shortened_contents, shortened_text}
use Rattle.rv_link_laws.specs.Lists.{In}
use Rattle.rv_cut_laws.specs.Cutting.{are_cuts, AreCuts, kind_left, cut_kind, cut_relocation, cut_section}
use Rattle.rv_cut_laws.specs.Walk.{count_within, moves_of}
use Rattle.rv_cut_laws.proofs.CallKindsLemmas.{call_width}
use Rattle.rv_cut_laws.proofs.FieldsLemmas.{Found, Absent, Present, found, not_a_call, not_cut, a_cut_call}
use Rattle.rv_cut_laws.proofs.ListsLemmas.{in_filter, filter_in, in_map, map_in, in_ordered, ordered_in, only_one, filter_ordered}
use Rattle.rv_cut_laws.proofs.ChangesLemmas.{permitted, change_permitted, padding_no_call, IsSound, call_inside, site_offset, changes_rise, none_ahead, source_of, cuts_order}

-- ---- calls that are cut short are permitted

-- the call of a place meets its bytes
meets_own : (place : ℕ) (r : Relocation) → is_call r.kind ≡ true → r.place ≡ place → meets place r ≡ true
meets_own place r call at =
    let wide = call_width r.kind call in
    and_three (nat_lt 0 (width_of r.kind)) (nat_lt r.place (place + 8)) (nat_lt place (r.place + width_of r.kind))
    (lt-ltb 0 (width_of r.kind) (omega (arith, wide))) (lt-ltb r.place (place + 8) (omega (arith, at))) (lt-ltb place (r.place + width_of r.kind) (omega (arith, at, wide)))

pub short_parts : (sizes : Sizes) (r : Relocation) → is_shortened sizes r ≡ true → (is_call r.kind ≡ true) × (sizes r.place < 8)
short_parts sizes r h =
    let both = and_parts (is_call r.kind) (nat_lt (sizes r.place) 8) h in
    (both.0, ltb-true (sizes r.place) 8 both.1)

pub is_change : (os : List Object) (i : InputSection) (c : Relocation) → In c (changes os i) → In c i.section.relocations × (may_change os i c ≡ true)
is_change os i c j = in_filter (may_change os i) c i.section.relocations (in_ordered c (filter (may_change os i) i.section.relocations) j)

-- each call of the section that is cut short is permitted
abbrev pub AreAllPermitted : List Object → InputSection → Sizes → Type 0
AreAllPermitted os i sizes = (r : Relocation) → In r i.section.relocations → is_shortened sizes r ≡ true → is_permitted os i r ≡ true

pub all_permitted : (os : List Object) (i : InputSection) (first : ℕ) (sizes : Sizes) (ks : List ℕ) (zs : List Site) → IsSound i.section → InOrder (first + size_of i.section.contents) zs
    → ((place : ℕ) → place < size_of i.section.contents → sizes place ≡ size_at (map (site_of os i first) (changes os i) ++ zs) ks (first + place))
    → AreAllPermitted os i sizes
all_permitted os i first sizes ks zs sound far look = λ r j short.
    let parts = short_parts sizes r short in
    let inside = call_inside i.section r sound j parts.0 in
    let less : r.place < size_of i.section.contents = omega (arith, inside) in
    let source = source_of os i first (first + r.place) (changes os i) ks zs (λ js. none_ahead (first + size_of i.section.contents) (first + r.place) zs js far (omega (arith, less)))
    (subst (λ (n : ℕ). n < 8) (look r.place less) parts.1) in
    same r j parts.0 source.0 (is_change os i source.0 source.1).0 (change_permitted os i source.0 (is_change os i source.0 source.1).1 source.2) source.3
  where
    same : (r : Relocation) → In r i.section.relocations → is_call r.kind ≡ true → (c : Relocation) → In c i.section.relocations → is_permitted os i c ≡ true → first + c.place ≡ first + r.place → is_permitted os i r ≡ true
    same r j call c k is at =
        let one = permitted os i c is in
        let place : r.place ≡ c.place = omega (arith, at) in
        subst (λ (x : Relocation). is_permitted os i x ≡ true) (only_one (meets c.place) c r i.section.relocations one.alone k j (meets_own c.place c one.call refl) (meets_own c.place r call place)) is

-- ---- the cuts of the definition

pub cuts_of_text : (sizes : Sizes) (s : Section) → goes_to_text s ≡ true → cuts sizes s ≡ map (cut sizes s) (in_order (filter (is_shortened sizes) s.relocations))
cuts_of_text sizes s text = ap (λ b. cond b (map (cut sizes s) (in_order (filter (is_shortened sizes) s.relocations))) []) text

pub cuts_elsewhere : (sizes : Sizes) (s : Section) → goes_to_text s ≡ false → cuts sizes s ≡ []
cuts_elsewhere sizes s other = ap (λ b. cond b (map (cut sizes s) (in_order (filter (is_shortened sizes) s.relocations))) []) other

-- each is that of a call
pub cut_source : (sizes : Sizes) (s : Section) (m : Move) → goes_to_text s ≡ true → In m (cuts sizes s) → (r : Relocation) × In r s.relocations × (is_shortened sizes r ≡ true) × (cut sizes s r ≡ m)
cut_source sizes s m text j =
    let at = in_map (cut sizes s) m (in_order (filter (is_shortened sizes) s.relocations)) (subst (λ (l : List Move). In m l) (cuts_of_text sizes s text) j) in
    let both = in_filter (is_shortened sizes) at.0 s.relocations (in_ordered at.0 (filter (is_shortened sizes) s.relocations) at.1) in
    (at.0, both.0, both.1, at.2)

pub cut_here : (sizes : Sizes) (s : Section) (r : Relocation) → goes_to_text s ≡ true → In r s.relocations → is_shortened sizes r ≡ true → In (cut sizes s r) (cuts sizes s)
cut_here sizes s r text j short =
    subst (λ (l : List Move). In (cut sizes s r) l) (sym (cuts_of_text sizes s text))
    (map_in (cut sizes s) r (in_order (filter (is_shortened sizes) s.relocations)) (ordered_in r (filter (is_shortened sizes) s.relocations) (filter_in (is_shortened sizes) r s.relocations j short)))

-- ---- kinds

two_left : (k link : ℕ) → (length (short_call k link) == 2) ≡ (k == 2)
two_left k link = by (k == 2)
  where
    by : (b : Bool) → (length (cond b (little_endian 2 empty_jump) (little_endian 4 (empty_jal link))) == 2) ≡ b
    by true = refl
    by false = refl

pub same_kind : (sizes : Sizes) (s : Section) (r : Relocation) → goes_to_text s ≡ true → In r s.relocations → cut_kind (cuts sizes s) r ≡ shortened_kind sizes r
same_kind sizes s r text j = by (is_call r.kind) refl (found (cuts sizes s) r.place)
  where
    short : Kind
    short = cond (sizes r.place == 2) kinds.RvcJump kinds.Jal

    by : (b : Bool) → is_call r.kind ≡ b → Found (cuts sizes s) r.place → cut_kind (cuts sizes s) r ≡ shortened_kind sizes r
    by false no_call at = not_a_call (cuts sizes s) r no_call ∙ sym (ap (λ b. cond (b && nat_lt (sizes r.place) 8) short r.kind) no_call)
    by true call (Present m i at one) =
        let source = cut_source sizes s m text i in
        let place : source.0.place ≡ r.place = ap (λ (x : Move). x.place) source.3 ∙ at in
        let less : nat_lt (sizes r.place) 8 ≡ true = sym (ap (λ n. nat_lt (sizes n) 8) place) ∙ (and_parts (is_call source.0.kind) (nat_lt (sizes source.0.place) 8) source.2).1 in
        a_cut_call (cuts sizes s) r m call one
        ∙ sym (ap (λ (x : Move). kind_left r.kind (Some x)) source.3)
        ∙ ap (λ b. cond b kinds.RvcJump kinds.Jal) (two_left (sizes source.0.place) (link_register (stored s.contents) source.0.place) ∙ ap (λ n. sizes n == 2) place)
        ∙ sym (ap (λ b. cond (b && nat_lt (sizes r.place) 8) short r.kind) call ∙ ap (λ b. cond b short r.kind) less)
    by true call (Absent none apart) = whole (nat_lt (sizes r.place) 8) refl
      where
        whole : (b : Bool) → nat_lt (sizes r.place) 8 ≡ b → cut_kind (cuts sizes s) r ≡ shortened_kind sizes r
        whole true less = absurd (apart (cut sizes s r) (cut_here sizes s r text j (and_from (is_call r.kind) (nat_lt (sizes r.place) 8) call less)) refl)
        whole false more = not_cut (cuts sizes s) r none ∙ sym (ap (λ b. cond (b && nat_lt (sizes r.place) 8) short r.kind) call ∙ ap (λ b. cond b short r.kind) more)

map_same_in : {X Y : Type 0} (f g : X → Y) (xs : List X) → ((x : X) → In x xs → f x ≡ g x) → map f xs ≡ map g xs
map_same_in f g [] each = refl
map_same_in f g (x ∷ xs) each = ap (λ y. y ∷ map f xs) (each x (inl refl)) ∙ ap (λ ys. g x ∷ ys) (map_same_in f g xs (λ y i. each y (inr i)))

pub same_text : (sizes : Sizes) (s : Section) → goes_to_text s ≡ true → cut_section (cuts sizes s) s ≡ shortened_text sizes s
same_text sizes s text =
    ap (λ rs. record s { contents = shortened_contents (cuts sizes s) s.contents; relocations = rs })
    (map_same_in (cut_relocation (cuts sizes s)) (shortened_relocation sizes (cuts sizes s)) s.relocations
    (λ r j. ap (λ k. record { place = new_offset (cuts sizes s) r.place; kind = k; symbol = r.symbol; addend = r.addend }) (same_kind sizes s r text j)))

-- ---- they may be cut

pub rising_changes : (os : List Object) (i : InputSection) (first : ℕ) (sizes : Sizes) (zs : List Site) → InOrder first (map (site_of os i first) (changes os i) ++ zs) → AreAllPermitted os i sizes
    → filter (is_shortened sizes) (changes os i) ≡ in_order (filter (is_shortened sizes) i.section.relocations)
rising_changes os i first sizes zs order each =
    filter_ordered (may_change os i) (is_shortened sizes) i.section.relocations (λ r j short. or_right (has_padding r) (is_permitted os i r) (each r j short)) (changes_rise os i first first (changes os i) zs order)

pub may_be_cut : (os : List Object) (i : InputSection) (first : ℕ) (sizes : Sizes) (zs : List Site) → IsSound i.section → goes_to_text i.section ≡ true → InOrder first (map (site_of os i first) (changes os i) ++ zs) → AreAllPermitted os i sizes
    → AreCuts i.section (cuts sizes i.section)
may_be_cut os i first sizes zs sound text order each = record {
  order = ap (are_cuts 0 (size_of i.section.contents)) (cuts_of_text sizes i.section text ∙ sym (ap (λ l. map (cut sizes i.section) l) (rising_changes os i first sizes zs order each)))
      ∙ cuts_order os i first 0 (size_of i.section.contents) i.section sizes (changes os i) zs (subst (λ (n : ℕ). InOrder n (map (site_of os i first) (changes os i) ++ zs)) (omega arith) order) facts;
  calls = λ m j. let source = cut_source sizes i.section m text j in (source.0, source.1, (short_parts sizes source.0 source.2).0, ap (λ (x : Move). x.place) source.3);
  clear = λ r j m k. let source = cut_source sizes i.section m text k in apart r j m source.0 source.1 source.2 (ap (λ (x : Move). x.place) source.3) (meets m.place r) refl;
}
  where
    facts : (c : Relocation) → In c (changes os i) → is_shortened sizes c ≡ true → (has_padding c ≡ false) × ((c.place % 2 ≡ 0) × (c.place + 8 ≤ size_of i.section.contents))
    facts c j short =
        let parts = short_parts sizes c short in
        let at = is_change os i c j in
        let one = permitted os i c (each c at.0 short) in
        (no_padding (has_padding c) refl parts.0, (one.even, call_inside i.section c sound at.0 parts.0))
      where
        no_padding : (b : Bool) → has_padding c ≡ b → is_call c.kind ≡ true → has_padding c ≡ false
        no_padding true is call = absurd (true≢false (sym call ∙ padding_no_call c is))
        no_padding false is call = is

    apart : (r : Relocation) → In r i.section.relocations → (m : Move) (d : Relocation) → In d i.section.relocations → is_shortened sizes d ≡ true → d.place ≡ m.place → (b : Bool) → meets m.place r ≡ b
        → ((is_call r.kind ≡ true) × (m.place ≡ r.place)) ⊎ (meets m.place r ≡ false)
    apart r j m d k short at false clear = inr clear
    apart r j m d k short at true met =
        let one = permitted os i d (each d k short) in
        let same = only_one (meets d.place) d r i.section.relocations one.alone k j (meets_own d.place d one.call refl) (ap (λ n. meets n r) at ∙ met) in
        inl (subst (λ (x : Relocation). is_call x.kind ≡ true) same one.call, sym at ∙ ap (λ (x : Relocation). x.place) same)

-- ---- what the walk finds

pub moves_of_front : (first : ℕ) (bytes : List ℕ) (sites : List Site) (ks : List ℕ) → moves_of first bytes sites (take (length sites) ks) ≡ moves_of first bytes sites ks
moves_of_front first bytes [] ks = refl
moves_of_front first bytes (s ∷ ss) [] = refl
moves_of_front first bytes (s ∷ ss) (k ∷ ks) =
    ap (λ l. cond (is_call_site s.kind && nat_lt k 8) (record { place = s.offset - first; full = 8; text = short_call k (link_register bytes (s.offset - first)) } ∷ l) l) (moves_of_front first bytes ss ks)

pub count_changes : (os : List Object) (i : InputSection) (first size : ℕ) (cs : List Relocation) (zs : List Site) → InOrder (first + size) zs → ((c : Relocation) → In c cs → c.place < size)
    → count_within first size (map (site_of os i first) cs ++ zs) ≡ length cs
count_changes os i first size [] [] far low = refl
count_changes os i first size [] (z ∷ zs) far low =
    let at = far.0 in
    ap (λ b. cond b (suc (count_within first size zs)) 0) (le-ltb (z.offset - first) size (omega (arith, at)))
count_changes os i first size (c ∷ cs) zs far low =
    let at = site_offset os i first c in
    let less = low c (inl refl) in
    ap (λ b. cond b (suc (count_within first size (map (site_of os i first) cs ++ zs))) 0) (lt-ltb ((site_of os i first c).offset - first) size (omega (arith, at, less)))
    ∙ ap suc (count_changes os i first size cs zs far (λ d j. low d (inr j)))
