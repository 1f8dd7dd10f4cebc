-- What the calls of a text drop, section by section: as much as is cut out of it.

use Rattle.std.proofs.Common.{◌≡◌, ℕ, zero, suc, ◌+◌, ◌-◌, ◌<◌, ◌≤◌, ◌⊎◌, inl, inr, Bool, true, false, cond, ◌&&◌, nat_lt, min, List, [], ◌∷◌, ◌++◌, length, map, drop, slice_index, refl, sym, ap, ◌∙◌, arith}
use Rattle.std.specs.Prelude.{◌==◌, ⊤}
use Rattle.std.specs.List.{AllByRecursion}
use Rattle.std.proofs.lemmas.List.{length-append, length-drop}
use Rattle.std.proofs.lemmas.Bool.{eq-eqb, ne_eqb, and_from, and_left, and_right, ltb-true, ltb-false}
use Rattle.rv_size_laws.specs.Sites.{padding_site, size_at}
use Rattle.rv_size_laws.specs.declared.site.Site.{Site}
use Rattle.rv_size_laws.specs.declared.site.SiteKind.{SiteKind}
use Rattle.rv_size_laws.specs.declared.site.SiteKind.TheVariants as kinds
use Rattle.rv_size_laws.specs.Calls as layout
use Rattle.rv_size_laws.specs.Calls.{Offers, bytes_of, site_at, dropped_of, InOrder, is_call as is_call_site}
use Rattle.rv_object_laws.specs.Object.{Relocation, Section, Object, size_of, stored}
use Rattle.rv_link_laws.specs.Moves.{Move, dropped}
use Rattle.rv_link_laws.specs.Inputs.{InputSection, begins_at}
use Rattle.rv_link_laws.specs.CallSites.{changes, site_of, sites_from, sites_of, start_padding, base, base_in, link_register}
use Rattle.rv_link_laws.specs.Shortened.{Sizes, sizes_by, short_call, cut, cuts}
use Rattle.rv_link_laws.proofs.TextInputsLemmas.{IsTextInput}
use Rattle.rv_link_laws.specs.Lists.{In}
use Rattle.rv_link_laws.proofs.HeldLemmas.{in_right, in_left}
use Rattle.rv_cut_laws.specs.Cutting.{are_cuts, AreCuts}
use Rattle.rv_cut_laws.specs.Walk.{moves_of}
use Rattle.rv_cut_laws.proofs.ShiftsLemmas.{first_cut, other_cuts}
use Rattle.rv_cut_laws.proofs.ChangesLemmas.{IsSound, change_inside, site_offset, passed_by, order_behind, changes_match, moves_match}
use Rattle.rv_cut_laws.proofs.SectionsLemmas.{AreAllPermitted, all_permitted, is_change, may_be_cut, rising_changes, cuts_of_text}
use Rattle.rv_cut_laws.proofs.LineLemmas.{Later, Stands}
use Rattle.rv_cut_laws.proofs.ListsLemmas.{map_in}

nothing : 1 ≤ 0 → ⊥
nothing le = absurd (omega (arith, le))

-- ---- lists of sites

dropped_none : (sites : List Site) (old : ℕ) → layout.dropped sites [] old ≡ 0
dropped_none [] old = refl
dropped_none (s ∷ ss) old = refl

dropped_join : (ss zs : List Site) (ks : List ℕ) (old : ℕ) → layout.dropped (ss ++ zs) ks old ≡ layout.dropped ss ks old + layout.dropped zs (drop (length ss) ks) old
dropped_join [] zs [] old = ap (λ n. 0 + n) (let e : layout.dropped zs [] old ≡ layout.dropped zs (drop 0 []) old = refl in e) ∙ refl
dropped_join [] zs (k ∷ ks) old = (let n = layout.dropped zs (k ∷ ks) old in let e : n ≡ 0 + n = omega arith in e)
dropped_join (s ∷ ss) zs [] old = sym (dropped_none zs old) ∙ (let n = layout.dropped zs [] old in let e : n ≡ 0 + n = omega arith in e)
dropped_join (s ∷ ss) zs (k ∷ ks) old =
    let rest = dropped_join ss zs ks old in
    let a = layout.dropped ss ks old in
    let b = layout.dropped zs (drop (length ss) ks) old in
    let c = dropped_of s k old in
    ap (λ n. c + n) rest ∙ (let e : c + (a + b) ≡ c + a + b = omega arith in e)

ahead_none : (from old : ℕ) (zs : List Site) (ks : List ℕ) → InOrder from zs → old ≤ from → layout.dropped zs ks old ≡ 0
ahead_none from old zs [] h low = dropped_none zs old
ahead_none from old [] (k ∷ ks) h low = refl
ahead_none from old (z ∷ zs) (k ∷ ks) h low =
    let at = h.0 in
    let rest = ahead_none (z.offset + bytes_of z.kind) old zs ks h.1 (omega (arith, at, low)) in
    omega (arith, rest, at, low)

-- a padding that is kept in full drops nothing
padding_drops : (s : Site) (k old : ℕ) → is_call_site s.kind ≡ false → Offers s.kind k → dropped_of s k old ≡ 0
padding_drops s k old no_call offered = by s.kind no_call offered
  where
    by : (kind : SiteKind) → is_call_site kind ≡ false → Offers kind k → min (bytes_of kind - k) (old - (s.offset + k)) ≡ 0
    by (kinds.Call call) e h = absurd (cc)
    by (kinds.Padding padding) e h = omega (arith, h)

-- nor does a call that keeps 8 bytes
whole_drops : (s : Site) (k old : ℕ) → is_call_site s.kind ≡ true → 8 ≤ k → dropped_of s k old ≡ 0
whole_drops s k old call le = by s.kind call
  where
    by : (kind : SiteKind) → is_call_site kind ≡ true → min (bytes_of kind - k) (old - (s.offset + k)) ≡ 0
    by (kinds.Call call) e = omega (arith, le)
    by (kinds.Padding padding) e = absurd (cc)

-- so many bytes are left of a call
short_length : (kind : SiteKind) (k link : ℕ) → is_call_site kind ≡ true → Offers kind k → k < 8 → length (short_call k link) ≡ k
short_length (kinds.Call call) k link e (inl eight) less = absurd (omega (arith, eight, less))
short_length (kinds.Call call) k link e (inr (inl four)) less = ap (λ n. length (short_call n link)) four ∙ sym four
short_length (kinds.Call call) k link e (inr (inr (two, c))) less = ap (λ n. length (short_call n link)) two ∙ sym two
short_length (kinds.Padding padding) k link e h less = absurd (cc)

-- a short call drops as its cut does
short_drops : (s : Site) (k first n link : ℕ) → is_call_site s.kind ≡ true → Offers s.kind k → k < 8 → first ≤ s.offset
    → dropped_of s k (first + n) ≡ min (8 - length (short_call k link)) (n - (s.offset - first + length (short_call k link)))
short_drops s k first n link call offered less low =
    let size = short_length s.kind k link call offered less in
    let eight = eight_bytes s.kind call in
    let bytes = bytes_of s.kind in
    let long = length (short_call k link) in
    let o = s.offset in
    let e : min (bytes - k) (first + n - (o + k)) ≡ min (8 - long) (n - (o - first + long)) = omega (arith, size, eight, low) in e
  where
    eight_bytes : (kind : SiteKind) → is_call_site kind ≡ true → bytes_of kind ≡ 8
    eight_bytes (kinds.Call call) e = refl
    eight_bytes (kinds.Padding padding) e = absurd (cc)

-- sites from an offset on drop as their cuts do
sites_drop : (first n : ℕ) (bytes : List ℕ) (ss : List Site) (ks : List ℕ) → length ss ≤ length ks → ((i : ℕ) → i < length ss → Offers (site_at ss i).kind (slice_index ks i)) → ((i : ℕ) → i < length ss → first ≤ (site_at ss i).offset)
    → layout.dropped ss ks (first + n) ≡ dropped (moves_of first bytes ss ks) n
sites_drop first n bytes [] [] many offered low = refl
sites_drop first n bytes [] (k ∷ ks) many offered low = refl
sites_drop first n bytes (s ∷ ss) [] many offered low = absurd (omega (arith, many))
sites_drop first n bytes (s ∷ ss) (k ∷ ks) many offered low =
    go (is_call_site s.kind) refl (nat_lt k 8) refl
    (sites_drop first n bytes ss ks (omega (arith, many)) (λ i less. offered (suc i) (omega (arith, less))) (λ i less. low (suc i) (omega (arith, less))))
  where
    place : ℕ
    place = s.offset - first

    move : Move
    move = record { place = place; full = 8; text = short_call k (link_register bytes place) }

    own : Offers s.kind k
    own = offered 0 (omega arith)

    rest : List Move
    rest = moves_of first bytes ss ks

    none : dropped_of s k (first + n) ≡ 0 → layout.dropped ss ks (first + n) ≡ dropped rest n → dropped_of s k (first + n) + layout.dropped ss ks (first + n) ≡ dropped rest n
    none e more = omega (arith, e, more)

    go : (a : Bool) → is_call_site s.kind ≡ a → (b : Bool) → nat_lt k 8 ≡ b → layout.dropped ss ks (first + n) ≡ dropped rest n
        → dropped_of s k (first + n) + layout.dropped ss ks (first + n) ≡ dropped (moves_of first bytes (s ∷ ss) (k ∷ ks)) n
    go true call true less more =
        let one = short_drops s k first n (link_register bytes place) call own (ltb-true k 8 less) (low 0 (omega arith)) in
        let text = short_call k (link_register bytes place) in
        ap (λ m. m + layout.dropped ss ks (first + n)) one ∙ ap (λ m. min (8 - length text) (n - (place + length text)) + m) more
        ∙ sym (ap (λ b. dropped (cond (b && nat_lt k 8) (move ∷ rest) rest) n) call ∙ ap (λ b. dropped (cond b (move ∷ rest) rest) n) less)
    go true call false more_bytes more =
        none (whole_drops s k (first + n) call (ltb-false k 8 more_bytes)) more
        ∙ sym (ap (λ b. dropped (cond (b && nat_lt k 8) (move ∷ rest) rest) n) call ∙ ap (λ b. dropped (cond b (move ∷ rest) rest) n) more_bytes)
    go false no_call b is more =
        none (padding_drops s k (first + n) no_call own) more
        ∙ sym (ap (λ b. dropped (cond (b && nat_lt k 8) (move ∷ rest) rest) n) no_call)

-- ---- cuts

-- behind all of them nothing more is dropped
pub all_dropped : (stop size a : ℕ) (ms : List Move) → are_cuts stop size ms ≡ true → size ≤ a → dropped ms a ≡ dropped ms size
all_dropped stop size a [] h far = refl
all_dropped stop size a (m ∷ ms) h far =
    let one = first_cut stop size m ms h in
    let rest = all_dropped (m.place + 8) size a ms (other_cuts stop size m ms h) far in
    by one.left one.ends one.full_is rest
  where
    by : (length m.text ≡ 2) ⊎ (length m.text ≡ 4) → m.place + 8 ≤ size → m.full ≡ 8 → dropped ms a ≡ dropped ms size
        → min (m.full - length m.text) (a - (m.place + length m.text)) + dropped ms a ≡ min (m.full - length m.text) (size - (m.place + length m.text)) + dropped ms size
    by (inl two) ends full rest = omega (arith, two, ends, full, rest, far)
    by (inr four) ends full rest = omega (arith, four, ends, full, rest, far)

-- ---- one section of text

-- what is known of a section: where it begins, how much is dropped before it, and what is cut out
pub record IsFramed (os : List Object) (kept : List ℕ) (at gone : ℕ) (i : InputSection) : Type 0 where
  pub begins : base os i.file i.index ≡ at + start_padding i.section
  pub drops : (n : ℕ) → n ≤ size_of i.section.contents
      → layout.dropped (sites_of os) kept (at + start_padding i.section + n) ≡ gone + dropped (cuts (sizes_by os kept i.file i.index) i.section) n
  pub allowed : AreCuts i.section (cuts (sizes_by os kept i.file i.index) i.section)
  pub each : AreAllPermitted os i (sizes_by os kept i.file i.index)
  pub there : (q : Relocation) → In q (changes os i) → In (site_of os i (at + start_padding i.section) q) (sites_of os)

abbrev pub Frames : List Object → List ℕ → (at gone : ℕ) → List InputSection → Type 0
Frames os kept at gone [] = ⊤
Frames os kept at gone (i ∷ is) =
    IsFramed os kept at gone i
    × Frames os kept (at + start_padding i.section + size_of i.section.contents) (gone + dropped (cuts (sizes_by os kept i.file i.index) i.section) (size_of i.section.contents)) is

-- sections in the order of their files and indices, from one on
abbrev pub Ordered : (f x : ℕ) → List InputSection → Type 0
Ordered f x [] = ⊤
Ordered f x (i ∷ is) = Later f x i.file i.index × Ordered i.file (suc i.index) is

-- what is known of the sites that are left
pub record AreLeft (os : List Object) (kept : List ℕ) (f x at gone : ℕ) (is : List InputSection) (ks : List ℕ) : Type 0 where
  pub stands : Stands os kept f x at is ks
  pub drops : (n : ℕ) → at ≤ n → layout.dropped (sites_of os) kept n ≡ gone + layout.dropped (sites_from os at is) ks n
  pub offered : (i : ℕ) → Offers (site_at (sites_from os at is) i).kind (slice_index ks i)
  pub there : (s : Site) → In s (sites_from os at is) → In s (sites_of os)

offers_behind : (ss zs : List Site) (ks : List ℕ) → length ss ≤ length ks → ((i : ℕ) → Offers (site_at (ss ++ zs) i).kind (slice_index ks i)) → (i : ℕ) → Offers (site_at zs i).kind (slice_index (drop (length ss) ks) i)
offers_behind [] zs [] many h i = h i
offers_behind [] zs (k ∷ ks) many h i = h i
offers_behind (s ∷ ss) zs [] many h i = absurd (omega (arith, many))
offers_behind (s ∷ ss) zs (k ∷ ks) many h i = offers_behind ss zs ks (omega (arith, many)) (λ j. h (suc j)) i

offers_before : (ss zs : List Site) (ks : List ℕ) → ((i : ℕ) → Offers (site_at (ss ++ zs) i).kind (slice_index ks i)) → (i : ℕ) → i < length ss → Offers (site_at ss i).kind (slice_index ks i)
offers_before [] zs ks h i less = absurd (omega (arith, less))
offers_before (s ∷ ss) zs ks h zero less = h 0
offers_before (s ∷ ss) zs [] h (suc i) less = offers_before ss zs [] (λ j. h (suc j)) i (omega (arith, less))
offers_before (s ∷ ss) zs (k ∷ ks) h (suc i) less = offers_before ss zs ks (λ j. h (suc j)) i (omega (arith, less))

module _ (os : List Object) (kept : List ℕ) (f x at gone : ℕ) (i : InputSection) (is : List InputSection) (k : ℕ) (ks : List ℕ) (input : IsTextInput os i) (later : Later f x i.file i.index)
    (left : AreLeft os kept f x at gone (i ∷ is) (k ∷ ks)) where
  s : Section
  s = i.section

  abbrev size : ℕ
  size = size_of i.section.contents

  abbrev first : ℕ
  first = at + start_padding i.section

  abbrev cs : List Relocation
  cs = changes os i

  abbrev zs : List Site
  zs = sites_from os (at + start_padding i.section + size_of i.section.contents) is

  abbrev own : List Site
  own = map (site_of os i (at + start_padding i.section)) (changes os i)

  abbrev start : Site
  start = padding_site at (start_padding i.section) (begins_at i.section)

  abbrev sizes : Sizes
  sizes = sizes_by os kept i.file i.index

  abbrev taken : List Move
  taken = cuts (sizes_by os kept i.file i.index) i.section

  sound : IsSound i.section
  sound = record { fit = input.inside; paddings = input.paddings }

  many : length ks ≡ length (own ++ zs)
  many = let many = left.stands.many in omega (arith, many)

  order : InOrder first (own ++ zs)
  order = left.stands.order.1

  rebased : (to : ℕ) (js : List InputSection) (n : ℕ) → InOrder to (sites_from os n js) → InOrder n (sites_from os n js)
  rebased to [] n h = tt
  rebased to (j ∷ js) n h = (omega arith, h.1)

  far_order : InOrder (first + size) zs
  far_order = let behind = order_behind os i first first cs zs order in rebased behind.0 is (first + size) behind.1

  low : (c : Relocation) → In c cs → c.place < size
  low c j = let one = is_change os i c j in change_inside os i c sound input.text one.0 one.1

  begins : base os i.file i.index ≡ first
  begins =
      left.stands.base_is i.file i.index later
      ∙ ap (λ b. at + (start_padding i.section + cond b 0 (size + base_in is i.file i.index))) (and_from (i.file == i.file) (i.index == i.index) (eq-eqb i.file i.file refl) (eq-eqb i.index i.index refl))
      ∙ (let a = start_padding i.section in let e : at + (a + 0) ≡ at + a = omega arith in e)

  look : (place : ℕ) → place < size → sizes place ≡ size_at (own ++ zs) ks (first + place)
  look place less =
      ap (λ n. size_at (sites_of os) kept (n + place)) begins
      ∙ left.stands.size_is (first + place) (omega arith)
      ∙ passed_by start k (own ++ zs) ks (first + place) (inl refl)

  each : AreAllPermitted os i sizes
  each = all_permitted os i first sizes ks zs sound far_order look

  found : moves_of first (stored i.section.contents) own ks ≡ taken
  found =
      moves_match os i first i.section sizes cs ks (changes_match os i first first size sizes cs ks zs order many low (λ place less from. look place less)) (λ c j. (is_change os i c j).1)
      ∙ ap (λ l. map (cut sizes i.section) l) (rising_changes os i first sizes zs order each)
      ∙ sym (cuts_of_text sizes i.section input.text)

  allowed : AreCuts i.section taken
  allowed = may_be_cut os i first sizes zs sound input.text order each

  enough : length own ≤ length ks
  enough = let whole = length-append own zs in let all = many in omega (arith, whole, all)

  places_low : (rs : List Relocation) (j : ℕ) → j < length (map (site_of os i first) rs) → first ≤ (site_at (map (site_of os i first) rs) j).offset
  places_low [] j less = absurd (omega (arith, less))
  places_low (r ∷ rs) zero less = let e = site_offset os i first r in omega (arith, e)
  places_low (r ∷ rs) (suc j) less = places_low rs j (omega (arith, less))

  own_drops : (n : ℕ) → layout.dropped own ks (first + n) ≡ dropped taken n
  own_drops n =
      sites_drop first n (stored i.section.contents) own ks enough (λ j less. offers_before own zs ks (λ j. left.offered (suc j)) j less) (places_low cs)
      ∙ ap (λ ms. dropped ms n) found

  start_drops : (n : ℕ) → dropped_of start k n ≡ 0
  start_drops n = padding_drops start k n refl (left.offered 0)

  -- what is dropped before an offset behind the section's first
  all_drop : (n : ℕ) → layout.dropped (sites_of os) kept (first + n) ≡ gone + (dropped taken n + layout.dropped zs (drop (length own) ks) (first + n))
  all_drop n =
      left.drops (first + n) (omega arith)
      ∙ ap (λ m. gone + (m + layout.dropped (own ++ zs) ks (first + n))) (start_drops (first + n))
      ∙ ap (λ m. gone + (0 + m)) (dropped_join own zs ks (first + n))
      ∙ ap (λ m. gone + (0 + (m + layout.dropped zs (drop (length own) ks) (first + n)))) (own_drops n)
      ∙ (let a = dropped taken n in let b = layout.dropped zs (drop (length own) ks) (first + n) in let e : gone + (0 + (a + b)) ≡ gone + (a + b) = omega arith in e)

  framed : IsFramed os kept at gone i
  framed = record {
    begins = begins;
    drops = λ n le. all_drop n
        ∙ ap (λ m. gone + (dropped taken n + m)) (ahead_none (first + size) (first + n) zs (drop (length own) ks) far_order (omega (arith, le)))
        ∙ (let a = dropped taken n in let e : gone + (a + 0) ≡ gone + a = omega arith in e);
    allowed = allowed;
    each = each;
    there = λ q j. left.there (site_of os i first q) (inr (in_left (site_of os i first q) own zs (map_in (site_of os i first) q cs j)));
  }

  sizes_behind : (n : ℕ) → first + size ≤ n → size_at (start ∷ (own ++ zs)) (k ∷ ks) n ≡ size_at zs (drop (length own) ks) n
  sizes_behind n far = passed_by start k (own ++ zs) ks n (inl refl) ∙ go cs ks low many
    where
      go : (rs : List Relocation) (js : List ℕ) → ((c : Relocation) → In c rs → c.place < size) → length js ≡ length (map (site_of os i first) rs ++ zs)
          → size_at (map (site_of os i first) rs ++ zs) js n ≡ size_at zs (drop (length (map (site_of os i first) rs)) js) n
      go [] [] low e = refl
      go [] (j ∷ js) low e = refl
      go (r ∷ rs) [] low e = absurd (omega (arith, e))
      go (r ∷ rs) (j ∷ js) low e =
          let less = low r (inl refl) in
          let here = site_offset os i first r in
          let o = (site_of os i first r).offset in
          passed_by (site_of os i first r) j (map (site_of os i first) rs ++ zs) js n (inr (ne_eqb o n (λ same. nothing (omega (arith, less, here, same, far)))))
          ∙ go rs js (λ c m. low c (inr m)) (omega (arith, e))

  behind : AreLeft os kept i.file (suc i.index) (first + size) (gone + dropped taken size) is (drop (length own) ks)
  behind = record {
    stands = record {
      base_is = base_behind;
      size_is = λ n far. left.stands.size_is n (omega (arith, far)) ∙ sizes_behind n far;
      many = (
          let whole = length-append own zs in
          let rest = length-drop (length own) ks in
          let all = many in omega (arith, whole, rest, all));
      order = far_order;
    };
    drops = λ n far.
        let at_n : first + (n - first) ≡ n = omega (arith, far) in
        ap (layout.dropped (sites_of os) kept) (sym at_n) ∙ all_drop (n - first)
        ∙ ap (λ m. gone + (m + layout.dropped zs (drop (length own) ks) (first + (n - first)))) (all_dropped 0 size (n - first) taken allowed.order (omega (arith, far)))
        ∙ ap (λ m. gone + (dropped taken size + layout.dropped zs (drop (length own) ks) m)) at_n
        ∙ (let a = dropped taken size in let b = layout.dropped zs (drop (length own) ks) n in let e : gone + (a + b) ≡ gone + a + b = omega arith in e);
    offered = offers_behind own zs ks enough (λ j. left.offered (suc j));
    there = λ z j. left.there z (inr (in_right z own zs j));
  }
    where
      base_behind : (g y : ℕ) → Later i.file (suc i.index) g y → base os g y ≡ first + size + base_in is g y
      base_behind g y next =
          left.stands.base_is g y (before later next)
          ∙ ap (λ b. at + (start_padding i.section + cond b 0 (size + base_in is g y))) (other next)
          ∙ (let a = start_padding i.section in let b = base_in is g y in let e : at + (a + (size + b)) ≡ at + a + size + b = omega arith in e)
        where
          before : Later f x i.file i.index → Later i.file (suc i.index) g y → Later f x g y
          before (inl one) (inl two) = inl (omega (arith, one, two))
          before (inl one) (inr two) = inl (let same = two.0 in omega (arith, one, same))
          before (inr one) (inl two) = inl (let same = one.0 in omega (arith, two, same))
          before (inr one) (inr two) = inr (one.0 ∙ two.0, (let p = one.1 in let q = two.1 in omega (arith, p, q)))

          other : Later i.file (suc i.index) g y → ((i.file == g) && (i.index == y)) ≡ false
          other (inl file) = and_left (i.file == g) (i.index == y) (ne_eqb i.file g (λ same. nothing (omega (arith, file, same))))
          other (inr both) = let le = both.1 in and_right (i.file == g) (i.index == y) (ne_eqb i.index y (λ same. nothing (omega (arith, le, same))))

pub frames : (os : List Object) (kept : List ℕ) (f x at gone : ℕ) (is : List InputSection) (ks : List ℕ) → AllByRecursion (IsTextInput os) is → Ordered f x is → AreLeft os kept f x at gone is ks → Frames os kept at gone is
frames os kept f x at gone [] ks inputs ordered left = tt
frames os kept f x at gone (i ∷ is) [] inputs ordered left = absurd (let many = left.stands.many in omega (arith, many))
frames os kept f x at gone (i ∷ is) (k ∷ ks) (input, inputs) (later, ordered) left = (
  framed os kept f x at gone i is k ks input later left,
  frames os kept i.file (suc i.index) (at + start_padding i.section + size_of i.section.contents) (gone + dropped (cuts (sizes_by os kept i.file i.index) i.section) (size_of i.section.contents)) is
      (drop (length (map (site_of os i (at + start_padding i.section)) (changes os i))) ks) inputs ordered (behind os kept f x at gone i is k ks input later left),
)
