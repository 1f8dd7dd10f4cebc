-- The walk along the sites of objects gives the objects of the definition.

use Rattle.std.proofs.Common.{◌≡◌, ℕ, suc, ◌+◌, ◌<◌, ◌≤◌, ◌⊎◌, inl, inr, true, false, cond, ◌&&◌, List, [], ◌∷◌, ◌++◌, length, map, take, drop, refl, sym, ap, subst, ◌∙◌, arith}
use Rattle.std.specs.Prelude.{◌==◌, ⊤}
use Rattle.std.proofs.lemmas.List.{length-append, length-map, length-drop}
use Rattle.std.proofs.Math.Seq.{take-append_seam, drop-append_seam}
use Rattle.std.proofs.lemmas.Bool.{eq-eqb, ne_eqb, and_from, and_left, and_right}
use Rattle.rv_size_laws.specs.Sites.{padding_site, size_at}
use Rattle.rv_size_laws.specs.declared.site.Site.{Site}
use Rattle.rv_size_laws.specs.Calls.{InOrder}
use Rattle.rv_object_laws.specs.Object.{Relocation, Section, Object, size_of, stored}
use Rattle.rv_link_laws.specs.Inputs.{InputSection, goes_to_text, begins_at}
use Rattle.rv_link_laws.specs.CallSites.{changes, site_of, sites_from, sites_of, start_padding, base, base_in}
use Rattle.rv_link_laws.specs.Shortened.{Sizes, sizes_by, cut, cuts}
use Rattle.rv_link_laws.specs.Lists.{In}
use Rattle.rv_cut_laws.specs.Cutting.{AreCuts}
use Rattle.rv_cut_laws.specs.Walk.{count_within, moves_of, own_moves, passed, section_moves}
use Rattle.rv_cut_laws.proofs.ChangesLemmas.{IsSound, Matches, change_inside, site_offset, passed_by, order_behind, changes_match, moves_match}
use Rattle.rv_cut_laws.proofs.SectionsLemmas.{AreAllPermitted, all_permitted, is_change, may_be_cut, moves_of_front, count_changes, rising_changes, cuts_of_text}

-- ---- sound sections

abbrev pub AreSound : List Section → Type 0
AreSound [] = ⊤
AreSound (s ∷ ss) = IsSound s × AreSound ss

abbrev pub AllSound : List Object → Type 0
AllSound [] = ⊤
AllSound (o ∷ os) = AreSound o.sections × AllSound os

-- ---- where the walk stands

-- a section of a file from an index on, or of a later file
abbrev pub Later : (file index : ℕ) → ℕ → ℕ → Type 0
Later file index g y = (file < g) ⊎ ((file ≡ g) × (index ≤ y))

-- the sites that are left are those of these sections
pub record Stands (os : List Object) (kept : List ℕ) (f x at : ℕ) (is : List InputSection) (ks : List ℕ) : Type 0 where
  pub base_is : (g y : ℕ) → Later f x g y → base os g y ≡ at + base_in is g y
  pub size_is : (o : ℕ) → at ≤ o → size_at (sites_of os) kept o ≡ size_at (sites_from os at is) ks o
  pub many : length ks ≡ length (sites_from os at is)
  pub order : InOrder at (sites_from os at is)

-- the same sites are left behind a section of another region, and in the next file

pub next_index : (os : List Object) (kept : List ℕ) (f x at : ℕ) (is : List InputSection) (ks : List ℕ) → Stands os kept f x at is ks → Stands os kept f (suc x) at is ks
next_index os kept f x at is ks stands = record {
  base_is = λ g y later. stands.base_is g y (before g y later);
  size_is = stands.size_is;
  many = stands.many;
  order = stands.order;
}
  where
    before : (g y : ℕ) → Later f (suc x) g y → Later f x g y
    before g y (inl file) = inl file
    before g y (inr both) = let le = both.1 in inr (both.0, omega (arith, le))

pub next_file : (os : List Object) (kept : List ℕ) (f x at : ℕ) (is : List InputSection) (ks : List ℕ) → Stands os kept f x at is ks → Stands os kept (suc f) 0 at is ks
next_file os kept f x at is ks stands = record {
  base_is = λ g y later. stands.base_is g y (before g y later);
  size_is = stands.size_is;
  many = stands.many;
  order = stands.order;
}
  where
    before : (g y : ℕ) → Later (suc f) 0 g y → Later f x g y
    before g y (inl file) = inl (omega (arith, file))
    before g y (inr both) = let same = both.0 in inl (omega (arith, same))

rebased : (os : List Object) (to at : ℕ) (is : List InputSection) → InOrder to (sites_from os at is) → InOrder at (sites_from os at is)
rebased os to at [] h = tt
rebased os to at (i ∷ is) h = (omega arith, h.1)

-- ---- past the changes of a section

change_passed : (os : List Object) (i : InputSection) (first : ℕ) (r : Relocation) (k : ℕ) (ss : List Site) (ks : List ℕ) (o : ℕ) → first + r.place < o → size_at (site_of os i first r ∷ ss) (k ∷ ks) o ≡ size_at ss ks o
change_passed os i first r k ss ks o less =
    let at = site_offset os i first r in
    passed_by (site_of os i first r) k ss ks o (inr (ne_eqb (site_of os i first r).offset o (λ same. none (omega (arith, at, less, same)))))
  where
    none : 1 ≤ 0 → ⊥
    none le = absurd (omega (arith, le))

changes_passed : (os : List Object) (i : InputSection) (first size o : ℕ) (cs : List Relocation) (zs : List Site) (ks : List ℕ) → ((c : Relocation) → In c cs → c.place < size) → first + size ≤ o
    → length ks ≡ length (map (site_of os i first) cs ++ zs) → size_at (map (site_of os i first) cs ++ zs) ks o ≡ size_at zs (drop (length cs) ks) o
changes_passed os i first size o [] zs ks low far many = refl
changes_passed os i first size o (c ∷ cs) zs [] low far many = absurd (omega (arith, many))
changes_passed os i first size o (c ∷ cs) zs (k ∷ ks) low far many =
    let less = low c (inl refl) in
    change_passed os i first c k (map (site_of os i first) cs ++ zs) ks o (omega (arith, less))
    ∙ changes_passed os i first size o cs zs ks (λ d j. low d (inr j)) far (omega (arith, many))

-- ---- one section of text

-- what the walk along the sites knows where it comes to a section of text
pub record IsHere (os : List Object) (sizes : Sizes) (i : InputSection) (first : ℕ) (ks : List ℕ) (zs : List Site) : Type 0 where
  pub found : moves_of first (stored i.section.contents) (map (site_of os i first) (changes os i)) ks ≡ cuts sizes i.section
  pub allowed : AreCuts i.section (cuts sizes i.section)
  pub matches : Matches sizes (changes os i) ks
  pub order : InOrder first (map (site_of os i first) (changes os i) ++ zs)

pub record Arrives (os : List Object) (kept : List ℕ) (i : InputSection) (first : ℕ) (ks : List ℕ) (is : List InputSection) : Type 0 where
  pub is_here : IsHere os (sizes_by os kept i.file i.index) i first ks (sites_from os (first + size_of i.section.contents) is)
  pub enough : length (changes os i) ≤ length ks
  pub next : Stands os kept i.file (suc i.index) (first + size_of i.section.contents) is (drop (length (changes os i)) ks)

pub here : (os : List Object) (kept : List ℕ) (f x at : ℕ) (o : Object) (s : Section) (is : List InputSection) (k : ℕ) (ks : List ℕ) → IsSound s → goes_to_text s ≡ true
    → Stands os kept f x at (record { file = f; object = o; index = x; section = s } ∷ is) (k ∷ ks)
    → Arrives os kept (record { file = f; object = o; index = x; section = s }) (at + start_padding s) ks is
here os kept f x at o s is k ks sound text stands = record {
  is_here = record { found = found; allowed = may_be_cut os i first sizes zs sound text order each; matches = matches; order = order };
  enough = (let whole = length-append own zs in let ahead = length-map cs (site_of os i first) in omega (arith, whole, ahead, many));
  next = record {
    base_is = λ g y later. base_behind g y later;
    size_is = λ n far. stands.size_is n (omega (arith, far)) ∙ sizes_behind n far;
    many = many_behind;
    order = far_order;
  };
}
  where
    i : InputSection
    i = record { file = f; object = o; index = x; section = s }

    size : ℕ
    size = size_of s.contents

    first : ℕ
    first = at + start_padding s

    cs : List Relocation
    cs = changes os i

    zs : List Site
    zs = sites_from os (first + size) is

    own : List Site
    own = map (site_of os i first) cs

    start : Site
    start = padding_site at (start_padding s) (begins_at s)

    all : List Site
    all = sites_from os at (i ∷ is)

    sizes : Sizes
    sizes = sizes_by os kept f x

    many : length ks ≡ length (own ++ zs)
    many = let many = stands.many in omega (arith, many)

    order : InOrder first (own ++ zs)
    order = stands.order.1

    far_order : InOrder (first + size) zs
    far_order = let behind = order_behind os i first first cs zs order in rebased os behind.0 (first + size) is behind.1

    low : (c : Relocation) → In c cs → c.place < size
    low c j = let one = is_change os i c j in change_inside os i c sound text one.0 one.1

    base_here : base os f x ≡ first
    base_here =
        stands.base_is f x (inr (refl, omega arith))
        ∙ ap (λ b. at + (start_padding s + cond b 0 (size + base_in is f x))) (and_from (f == f) (x == x) (eq-eqb f f refl) (eq-eqb x x refl))
        ∙ omega arith

    look : (place : ℕ) → place < size → sizes place ≡ size_at (own ++ zs) ks (first + place)
    look place less =
        ap (λ n. size_at (sites_of os) kept (n + place)) base_here
        ∙ stands.size_is (first + place) (omega arith)
        ∙ passed_by start k (own ++ zs) ks (first + place) (inl refl)

    each : AreAllPermitted os i sizes
    each = all_permitted os i first sizes ks zs sound far_order look

    matches : Matches sizes cs ks
    matches = changes_match os i first first size sizes cs ks zs order many low (λ place less from. look place less)

    found : moves_of first (stored s.contents) own ks ≡ cuts sizes s
    found =
        moves_match os i first s sizes cs ks matches (λ c j. (is_change os i c j).1)
        ∙ ap (λ l. map (cut sizes s) l) (rising_changes os i first sizes zs order each)
        ∙ sym (cuts_of_text sizes s text)

    base_behind : (g y : ℕ) → Later f (suc x) g y → base os g y ≡ first + size + base_in is g y
    base_behind g y later =
        stands.base_is g y (before later)
        ∙ ap (λ b. at + (start_padding s + cond b 0 (size + base_in is g y))) (other later)
        ∙ omega arith
      where
        before : Later f (suc x) g y → Later f x g y
        before (inl file) = inl file
        before (inr both) = let le = both.1 in inr (both.0, omega (arith, le))

        none : 1 ≤ 0 → ⊥
        none le = absurd (omega (arith, le))

        other : Later f (suc x) g y → ((f == g) && (x == y)) ≡ false
        other (inl file) = and_left (f == g) (x == y) (ne_eqb f g (λ same. none (omega (arith, file, same))))
        other (inr both) = let le = both.1 in and_right (f == g) (x == y) (ne_eqb x y (λ same. none (omega (arith, le, same))))

    sizes_behind : (n : ℕ) → first + size ≤ n → size_at all (k ∷ ks) n ≡ size_at zs (drop (suc (length cs)) (k ∷ ks)) n
    sizes_behind n far = passed_by start k (own ++ zs) ks n (inl refl) ∙ changes_passed os i first size n cs zs ks low far many

    many_behind : length (drop (suc (length cs)) (k ∷ ks)) ≡ length zs
    many_behind =
        let whole = length-append own zs in
        let ahead = length-map cs (site_of os i first) in
        let left = length-drop (length cs) ks in
        omega (arith, whole, ahead, left, many)

-- what the walk does with a section, and where it stands behind it
pub record Step (os : List Object) (kept : List ℕ) (f x : ℕ) (s : Section) (sites : List Site) (ks : List ℕ) (is : List InputSection) : Type 0 where
  pub moves : section_moves s sites ks ≡ cuts (sizes_by os kept f x) s
  pub allowed : AreCuts s (cuts (sizes_by os kept f x) s)
  pub end : ℕ
  pub rest : drop (passed s sites) sites ≡ sites_from os end is
  pub stands : Stands os kept f (suc x) end is (drop (passed s sites) ks)

pub text_step : (os : List Object) (kept : List ℕ) (f x at : ℕ) (o : Object) (s : Section) (is : List InputSection) (ks : List ℕ) → IsSound s → goes_to_text s ≡ true
    → Stands os kept f x at (record { file = f; object = o; index = x; section = s } ∷ is) ks
    → Step os kept f x s (sites_from os at (record { file = f; object = o; index = x; section = s } ∷ is)) ks is
text_step os kept f x at o s is [] sound text stands = let many = stands.many in absurd (omega (arith, many))
text_step os kept f x at o s is (k ∷ ks) sound text stands = record {
  moves = moves;
  allowed = arrived.is_here.allowed;
  end = first + size;
  rest = ap (λ n. drop n all) passed_is ∙ drop_changes;
  stands = subst (λ (n : ℕ). Stands os kept f (suc x) (first + size) is (drop n (k ∷ ks))) (sym passed_is) arrived.next;
}
  where
    i : InputSection
    i = record { file = f; object = o; index = x; section = s }

    size : ℕ
    size = size_of s.contents

    first : ℕ
    first = at + start_padding s

    cs : List Relocation
    cs = changes os i

    zs : List Site
    zs = sites_from os (first + size) is

    own : List Site
    own = map (site_of os i first) cs

    all : List Site
    all = sites_from os at (i ∷ is)

    arrived : Arrives os kept i first ks is
    arrived = here os kept f x at o s is k ks sound text stands

    low : (c : Relocation) → In c cs → c.place < size
    low c j = let one = is_change os i c j in change_inside os i c sound text one.0 one.1

    count : count_within first size (own ++ zs) ≡ length cs
    count = count_changes os i first size cs zs arrived.next.order low

    passed_is : passed s all ≡ suc (length cs)
    passed_is = ap (λ b. cond b (suc (count_within first size (own ++ zs))) 0) text ∙ ap suc count

    drop_changes : drop (length cs) (own ++ zs) ≡ zs
    drop_changes = ap (λ n. drop n (own ++ zs)) (sym (length-map cs (site_of os i first))) ∙ drop-append_seam own zs

    take_changes : take (length cs) (own ++ zs) ≡ own
    take_changes = ap (λ n. take n (own ++ zs)) (sym (length-map cs (site_of os i first))) ∙ take-append_seam own zs

    moves : section_moves s all (k ∷ ks) ≡ cuts (sizes_by os kept f x) s
    moves =
        ap (λ n. own_moves (stored s.contents) (take n all) (take n (k ∷ ks))) passed_is
        ∙ ap (λ l. moves_of first (stored s.contents) l (take (length cs) ks)) take_changes
        ∙ ap (λ n. moves_of first (stored s.contents) own (take n ks)) (sym (length-map cs (site_of os i first)))
        ∙ moves_of_front first (stored s.contents) own ks
        ∙ arrived.is_here.found
