-- What a turn of the loops over relocations and sections does.

use Rattle.std.proofs.Common.{◌≡◌, ℕ, ◌+◌, ◌-◌, ◌<◌, List, [], ◌∷◌, ◌++◌, length, take, drop, map, get_or, refl, sym, ap, ◌∙◌, subst, arith, Some, inl, inr}
use Rattle.std.proofs.lemmas.List.{get_or_default, drop_at, drop_all, take_at, take_all, append-nil, length-map, length-append, length-replicate}
use Rattle.std.proofs.lemmas.Bool.{and_parts, eqb-true}
use Rattle.std.specs.Prelude.{◌==◌, is_some, unwrap_or, ℤ, pos, IsTrue, true}
use Rattle.std.specs.List.{AllByRecursion, list_all}
use Rattle.rv_list_laws.proofs.MapLemmas.{get_or_map_read, drop_map_read}
use Rattle.rv_isa.specs.Kinds.{width_of, is_low_part}
use Rattle.rv_reloc_laws.specs.Ranges.{Takes, Refuses}
use Rattle.rv_object_laws.specs.Object.{Contents, Progbits, Note, Nobits, Relocation, Section, Object, size_of}
use Rattle.rv_object_laws.specs.Valid.{are_paddings, fit_inside}
use Rattle.rv_object_types.specs.Parts.{relocation_of}
use Rattle.rv_object_types.specs.declared.relocation.Relocation.{Relocation as Declared}
use Rattle.rv_link_laws.specs.Moves.{Move, moves, new_offset, kept, has_room}
use Rattle.rv_link_laws.specs.Inputs.{InputSection, has_no_bytes}
use Rattle.rv_link_laws.specs.Values.{applied, patched_at, value, initial_bytes}
use Rattle.rv_link_laws.specs.Layout.{outer_in}
use Rattle.rv_link_laws.specs.Untaken.{IsTaken, worth, IsFirst, IsUntaken}
use Rattle.rv_cut_laws.specs.Cutting.{cut_relocation}
use Rattle.rv_placement.specs.declared.placement.Placement.{Placement}
use Rattle.rv_placement.specs.Placement.{starts_of, layout_of}
use Rattle.rv_fault.specs.declared.link_fault.LinkFault.{LinkFault}
use Rattle.rv_fault.specs.declared.link_fault.LinkFault.TheVariants.{Overflow, OddTarget, DanglingPcrel, AlignmentShort, Undefined, Duplicate, EntryMissing, ImageTooLarge, BadTextStart, TooManyFiles, OutOfMemory}
use Rattle.rv_link.specs.Filled.{IsInside}
use Rattle.rv_cut_laws.proofs.FollowingLemmas.{Follow, kept_size}
use Rattle.rv_cut_laws.proofs.OrderedLemmas.{section_follows, fields_inside}

-- ---- relocations

-- so far and left: the relocations that are left make of the bytes what all of them make of those at first
pub record IsPatched (os : List Object) (p : Placement) (i : InputSection) (ms : List Move) (all : List Relocation) (old : List ℕ)
    (left : List Relocation) (bytes : List ℕ) : Type 0 where
  pub inside : AllByRecursion (IsInside ms (length bytes)) left
  pub same : applied (new_offset ms) (worth os (layout_of p) i) left bytes ≡ applied (new_offset ms) (worth os (layout_of p) i) all old
  pub taken : AllByRecursion (IsTaken os (layout_of p) i) left → AllByRecursion (IsTaken os (layout_of p) i) all
  pub first : (fault : LinkFault) → IsFirst (IsTaken os (layout_of p) i) (IsUntaken os (layout_of p) i fault) left → IsFirst (IsTaken os (layout_of p) i) (IsUntaken os (layout_of p) i fault) all

pub patched_step : (os : List Object) (p : Placement) (i : InputSection) (ms : List Move) (all : List Relocation) (old : List ℕ)
    (from : List Relocation) (r : Relocation) (left : List Relocation) (bytes new : List ℕ) (v : ℤ) → IsPatched os p i ms all old from bytes → from ≡ r ∷ left
    → value (outer_in os (layout_of p)) (starts_of p) os i r ≡ Some v → (is_low_part r.kind ≡ true → r.addend ≡ pos 0) → Takes r.kind v
    → new ≡ patched_at (new_offset ms r.place) r.kind v bytes → length new ≡ length bytes → IsPatched os p i ms all old left new
patched_step os p i ms all old from r left bytes new v is front found alone takes writes keeps =
    let here : worth os (layout_of p) i r ≡ v = ap (λ x. unwrap_or x (pos 0)) found in
    let both : AllByRecursion (IsInside ms (length bytes)) (r ∷ left) = subst (λ l. AllByRecursion (IsInside ms (length bytes)) l) front is.inside in
    let one : IsTaken os (layout_of p) i r = record { found = ap is_some found; alone = alone; takes = subst (λ x. Takes r.kind x) (sym here) takes } in
    record {
      inside = subst (λ n. AllByRecursion (IsInside ms n) left) (sym keeps) both.1;
      same =
          ap (λ l. applied (new_offset ms) (worth os (layout_of p) i) left l) (writes ∙ ap (λ x. patched_at (new_offset ms r.place) r.kind x bytes) (sym here))
          ∙ ap (λ l. applied (new_offset ms) (worth os (layout_of p) i) l bytes) (sym front) ∙ is.same;
      taken = λ h. is.taken (subst (λ l. AllByRecursion (IsTaken os (layout_of p) i) l) (sym front) (one, h));
      first = λ fault h. is.first fault (subst (λ l. IsFirst (IsTaken os (layout_of p) i) (IsUntaken os (layout_of p) i fault) l) (sym front) (inr (one, h)));
    }

-- the next one fails
pub patched_failed : (os : List Object) (p : Placement) (i : InputSection) (ms : List Move) (all : List Relocation) (old : List ℕ)
    (from : List Relocation) (r : Relocation) (left : List Relocation) (bytes : List ℕ) (fault : LinkFault) → IsPatched os p i ms all old from bytes → from ≡ r ∷ left
    → IsUntaken os (layout_of p) i fault r → IsFirst (IsTaken os (layout_of p) i) (IsUntaken os (layout_of p) i fault) all
patched_failed os p i ms all old from r left bytes fault is front h = is.first fault (subst (λ l. IsFirst (IsTaken os (layout_of p) i) (IsUntaken os (layout_of p) i fault) l) (sym front) (inl h))

-- a field that does not take its value
pub untaken_by : (os : List Object) (p : Placement) (i : InputSection) (r : Relocation) (v : ℤ) (fault : LinkFault) → value (outer_in os (layout_of p)) (starts_of p) os i r ≡ Some v → (is_low_part r.kind ≡ true → r.addend ≡ pos 0)
    → Refuses r.kind v fault → IsUntaken os (layout_of p) i fault r
untaken_by os p i r v Overflow found alone h = (v, (found, alone), h)
untaken_by os p i r v OddTarget found alone h = (v, (found, alone), h)
untaken_by os p i r v DanglingPcrel found alone h = absurd h
untaken_by os p i r v AlignmentShort found alone h = absurd h
untaken_by os p i r v (Undefined name) found alone h = absurd h
untaken_by os p i r v (Duplicate name) found alone h = absurd h
untaken_by os p i r v EntryMissing found alone h = absurd h
untaken_by os p i r v ImageTooLarge found alone h = absurd h
untaken_by os p i r v BadTextStart found alone h = absurd h
untaken_by os p i r v TooManyFiles found alone h = absurd h
untaken_by os p i r v OutOfMemory found alone h = absurd h

-- what is next of the relocations of a section, as they have moved, which a loop reads from a list that is theirs
pub moved_next : (ms : List Move) (all items : List Declared) (n : ℕ) (d q : Declared) → items ≡ all → n < length items → relocation_of q ≡ cut_relocation ms (relocation_of (get_or items n d))
    → drop n (map (cut_relocation ms) (map relocation_of all)) ≡ relocation_of q ∷ drop (n + 1) (map (cut_relocation ms) (map relocation_of all))
moved_next ms all items n d q same h is =
    let r : Declared = get_or items n d in
    let here : r ≡ get_or all n r = get_or_default items n d r h ∙ ap (λ l. get_or l n r) same in
    let low : n < length all = subst (λ l. n < length l) same h in
    drop_map_read (cut_relocation ms) (map relocation_of all) n (relocation_of r) (subst (λ k. n < k) (sym (length-map all relocation_of)) low) (sym (get_or_map_read relocation_of all n r low here))
    ∙ ap (λ x. x ∷ drop (n + 1) (map (cut_relocation ms) (map relocation_of all))) (sym is)

pub inside_next : (os : List Object) (p : Placement) (i : InputSection) (ms : List Move) (all : List Relocation) (old : List ℕ)
    (from : List Relocation) (r : Relocation) (left : List Relocation) (bytes : List ℕ) → IsPatched os p i ms all old from bytes → from ≡ r ∷ left → IsInside ms (length bytes) r
inside_next os p i ms all old from r left bytes is front =
    let both : AllByRecursion (IsInside ms (length bytes)) (r ∷ left) = subst (λ l. AllByRecursion (IsInside ms (length bytes)) l) front is.inside in both.0

-- ---- the end of a region

-- the part of a list that was added to it
pub part_is : (old k x : List ℕ) (n : ℕ) → x ≡ old ++ k → n ≡ length old → take (length x - n) (drop n x) ≡ k
part_is old k x n e f =
    let behind : drop n x ≡ k = ap (drop n) e ∙ drop_at old k n (sym f) in
    ap (take (length x - n)) behind ∙ take_all (length x - n) k (omega (arith, ap length e, length-append old k))

-- and that part written anew
pub part_new : (old k x new past : List ℕ) (n total : ℕ) → x ≡ old ++ k → n ≡ length old → length new ≡ length k → past ≡ [] → total ≡ length x
    → take total (take n x ++ (new ++ past) ++ drop (length (take n x ++ (new ++ past))) x) ≡ old ++ new
part_new old k x new past n total e f same none all =
    let front : take n x ≡ old = ap (take n) e ∙ take_at old k n (sym f) in
    let body : take n x ++ (new ++ past) ≡ old ++ new = ap (λ l. l ++ (new ++ past)) front ∙ ap (λ l. old ++ (new ++ l)) none ∙ ap (λ l. old ++ l) (append-nil new) in
    let size : length (old ++ new) ≡ length x = length-append old new ∙ ap (λ m. length old + m) same ∙ sym (length-append old k) ∙ sym (ap length e) in
    let rest : drop (length (take n x ++ (new ++ past))) x ≡ [] = ap (λ l. drop (length l) x) body ∙ drop_all (length (old ++ new)) x (omega (arith, size)) in
    let whole : take n x ++ (new ++ past) ++ drop (length (take n x ++ (new ++ past))) x ≡ old ++ new = ap (λ l. take n x ++ (new ++ past) ++ l) rest ∙ append-nil (take n x ++ (new ++ past)) ∙ body in
    ap (take total) whole ∙ take_all total (old ++ new) (omega (arith, size, all))

-- ---- the fields of a section

pub initial_size : (c : Contents) → length (initial_bytes c) ≡ size_of c
initial_size (Progbits bytes) = refl
initial_size (Note bytes) = refl
initial_size (Nobits size) = length-replicate {A = ℕ} size 0

-- each field lies in what is kept of a section that has room for its paddings
pub all_inside : (s : Section) (base : ℕ) (ms : List Move) (k : List ℕ) → ms ≡ moves base s → IsTrue (list_all has_room ms) → IsTrue (are_paddings s.executable s.contents s.relocations)
    → IsTrue (fit_inside s.contents s.relocations) → k ≡ kept 0 ms (initial_bytes s.contents) → AllByRecursion (IsInside ms (length k)) s.relocations
all_inside s base ms k same room paddings inside e =
    let room' : list_all has_room (moves base s) ≡ true = subst (λ m. list_all has_room m ≡ true) same room in
    let follow : Follow 0 (moves base s) (size_of s.contents) = section_follows s base paddings room' in
    let follow' : Follow 0 ms (length (initial_bytes s.contents)) = subst (λ n. Follow 0 ms n) (sym (initial_size s.contents)) (subst (λ m. Follow 0 m (size_of s.contents)) (sym same) follow) in
    let long : length k ≡ new_offset ms (size_of s.contents) = ap length e ∙ kept_size ms (initial_bytes s.contents) follow' ∙ ap (new_offset ms) (initial_size s.contents) in
    subst (λ n. AllByRecursion (IsInside ms n) s.relocations) (sym long)
    (subst (λ m. AllByRecursion (IsInside m (new_offset m (size_of s.contents))) s.relocations) (sym same) (fields_inside s base paddings room' inside))

pub kept_long : (s : Section) (base : ℕ) (ms : List Move) → ms ≡ moves base s → IsTrue (list_all has_room ms) → IsTrue (are_paddings s.executable s.contents s.relocations)
    → length (kept 0 ms (initial_bytes s.contents)) ≡ new_offset ms (size_of s.contents)
kept_long s base ms same room paddings =
    let room' : list_all has_room (moves base s) ≡ true = subst (λ m. list_all has_room m ≡ true) same room in
    let follow : Follow 0 (moves base s) (size_of s.contents) = section_follows s base paddings room' in
    let follow' : Follow 0 ms (length (initial_bytes s.contents)) = subst (λ n. Follow 0 ms n) (sym (initial_size s.contents)) (subst (λ m. Follow 0 m (size_of s.contents)) (sym same) follow) in
    kept_size ms (initial_bytes s.contents) follow' ∙ ap (new_offset ms) (initial_size s.contents)

-- a section without bytes has no field
pub none_inside : (c : Contents) (ms : List Move) (size : ℕ) (rs : List Relocation) → has_no_bytes c ≡ true → IsTrue (fit_inside c rs) → AllByRecursion (IsInside ms size) rs
none_inside c ms size [] e h = tt
none_inside (Nobits zeroed) ms size (r ∷ rs) e h =
    let parts : ((width_of r.kind == 0) ≡ true) × (fit_inside (Nobits zeroed) rs ≡ true) = and_parts (width_of r.kind == 0) (fit_inside (Nobits zeroed) rs) h in
    let none : width_of r.kind ≡ 0 = eqb-true _ _ parts.0 in
    ((λ has. absurd (omega arith)), none_inside (Nobits zeroed) ms size rs e parts.1)
none_inside (Progbits bytes) ms size (r ∷ rs) e h = absurd (cc)
none_inside (Note bytes) ms size (r ∷ rs) e h = absurd (cc)
