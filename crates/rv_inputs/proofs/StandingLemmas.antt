-- One name more in the table of names.

use Rattle.std.proofs.Common.{◌≡◌, ℕ, ◌+◌, ◌<◌, Bor, length, get_or, Bool, true, false, cond, not, List, [], ◌∷◌, ◌++◌, Option, Some, None, is_some, take, refl, sym, ap, ◌∙◌}
use Rattle.std.specs.Prelude.{◌||◌, ◌&&◌, bytes_eq}
use Rattle.std.proofs.lemmas.Bool.{true≢false}
use Rattle.std.proofs.lemmas.List.{map-append}
use Rattle.rv_list_laws.proofs.ElementsLemmas.{same_bytes, bytes_eq_swap, get_index_or}
use Rattle.rv_list_laws.proofs.TakeDropLemmas.{take_next}
use Rattle.rv_archive_laws.specs.Taken.{has_name}
use Rattle.rv_inputs.specs.declared.standings.Standings.{Standings}
use Rattle.rv_inputs.specs.Plain.{plain_texts}
use Rattle.rv_inputs.specs.Standing.{standing, StandBy}

-- ---- what the table answers

pub open_by : (g w : Bool) (is_given : Bool) → standing g w ≡ Some is_given → not is_given ≡ (w && not g)
open_by true true is_given is = let same : true ≡ is_given = cc in ap not (sym same)
open_by true false is_given is = let same : true ≡ is_given = cc in ap not (sym same)
open_by false true is_given is = let same : false ≡ is_given = cc in ap not (sym same)
open_by false false is_given is = cc

pub closed_by : (g w : Bool) → standing g w ≡ None → false ≡ (w && not g)
closed_by true w is = cc
closed_by false true is = cc
closed_by false false is = refl

-- ---- a name is given

given_by : (b g w : Bool) (r : Option Bool) → r ≡ standing g w → cond b (Some true) r ≡ standing (g || b) w
given_by true true w r is = refl
given_by true false w r is = refl
given_by false true w r is = is
given_by false false w r is = is

pub given_more : (name q : List ℕ) (g w : Bool) (old new : Option Bool) → new ≡ cond (bytes_eq name q) (Some true) old → old ≡ standing g w → new ≡ standing (g || bytes_eq q name) w
given_more name q g w old new now is = now ∙ given_by (bytes_eq name q) g w old is ∙ ap (λ b. standing (g || b) w) (bytes_eq_swap name q)

-- ---- a name is wanted

pub unknown_parts : (g w : Bool) → is_some (standing g w) ≡ false → (g ≡ false) × (w ≡ false)
unknown_parts true w is = absurd (true≢false is)
unknown_parts false true is = absurd (true≢false is)
unknown_parts false false is = (refl, refl)

-- whether it is open from now on
pub opens_new : (g w : Bool) → is_some (standing g w) ≡ false → true ≡ (not w && not g)
opens_new true w is = absurd (true≢false is)
opens_new false true is = absurd (true≢false is)
opens_new false false is = refl

pub opens_known : (g w : Bool) → is_some (standing g w) ≡ true → false ≡ (not w && not g)
opens_known true true is = refl
opens_known true false is = refl
opens_known false true is = refl
opens_known false false is = absurd (true≢false (sym is))

wanted_by : (b g w : Bool) (r : Option Bool) → r ≡ standing g w → (b ≡ true → g ≡ false) → cond b (Some false) r ≡ standing g (w || b)
wanted_by true true w r is free = absurd (true≢false (free refl))
wanted_by true false true r is free = refl
wanted_by true false false r is free = refl
wanted_by false true w r is free = is
wanted_by false false true r is free = is
wanted_by false false false r is free = is

pub wanted_more : (name q : List ℕ) (given wanted : List ℕ → Bool) (old new : Option Bool) → new ≡ cond (bytes_eq name q) (Some false) old → old ≡ standing (given q) (wanted q)
    → is_some (standing (given name) (wanted name)) ≡ false → new ≡ standing (given q) (wanted q || bytes_eq q name)
wanted_more name q given wanted old new now is free =
    now
    ∙ wanted_by (bytes_eq name q) (given q) (wanted q) old is (λ same. sym (ap given (same_bytes name q same)) ∙ (unknown_parts (given name) (wanted name) free).0)
    ∙ ap (λ b. standing (given q) (wanted q || b)) (bytes_eq_swap name q)

known_by : (b g w : Bool) → (b ≡ true → is_some (standing g w) ≡ true) → standing g w ≡ standing g (w || b)
known_by b true w known = refl
known_by b false true known = refl
known_by true false false known = absurd (true≢false (sym (known refl)))
known_by false false false known = refl

pub wanted_known : (name q : List ℕ) (given wanted : List ℕ → Bool) (old : Option Bool) → old ≡ standing (given q) (wanted q) → is_some (standing (given name) (wanted name)) ≡ true
    → old ≡ standing (given q) (wanted q || bytes_eq q name)
wanted_known name q given wanted old is known =
    is ∙ known_by (bytes_eq q name) (given q) (wanted q) (λ same. ap (λ x. is_some (standing (given x) (wanted x))) (same_bytes q name same) ∙ known)

-- ---- the same answers

pub stand_same : (s : Standings) (given given' wanted wanted' : List ℕ → Bool) → ((q : List ℕ) → given q ≡ given' q) → ((q : List ℕ) → wanted q ≡ wanted' q) → StandBy s given wanted → StandBy s given' wanted'
stand_same s given given' wanted wanted' a b stand = λ q. stand q ∙ (λ i. standing (a q i) (b q i))

-- ---- names one after another

pub or_three : (a b c : Bool) → ((a || b) || c) ≡ (a || (b || c))
or_three true b c = refl
or_three false b c = refl

-- ---- names of a list so far, and one more

refl_or : (b : Bool) → (b || false) ≡ (false || b)
refl_or true = refl
refl_or false = refl

any_more : (q : List ℕ) (names : List (List ℕ)) (n : List ℕ) → has_name (names ++ n ∷ []) q ≡ (has_name names q || bytes_eq q n)
any_more q [] n = refl_or (bytes_eq q n)
any_more q (m ∷ names) n = ap (λ b. bytes_eq q m || b) (any_more q names n) ∙ sym (or_three (bytes_eq q m) (has_name names q) (bytes_eq q n))

pub has_more : (names : List (Bor (List ℕ))) (i : ℕ) (d : Bor (List ℕ)) → i < length names → (q : List ℕ)
    → has_name (plain_texts (take (i + 1) names)) q ≡ (has_name (plain_texts (take i names)) q || bytes_eq q (get_or names i d).now)
has_more names i d less q =
    ap (λ ns. has_name (plain_texts ns) q) (take_next names i (get_or names i d) (get_index_or names i d less))
    ∙ ap (λ ns. has_name ns q) (map-append (λ (n : Bor (List ℕ)). n.now) (take i names) (get_or names i d ∷ []))
    ∙ any_more q (plain_texts (take i names)) (get_or names i d).now

pub more_names : (names : List (Bor (List ℕ))) (i : ℕ) (d : Bor (List ℕ)) (f : List ℕ → Bool) → i < length names → (q : List ℕ)
    → ((f q || has_name (plain_texts (take i names)) q) || bytes_eq q (get_or names i d).now) ≡ (f q || has_name (plain_texts (take (i + 1) names)) q)
more_names names i d f less q =
    or_three (f q) (has_name (plain_texts (take i names)) q) (bytes_eq q (get_or names i d).now) ∙ ap (λ b. f q || b) (sym (has_more names i d less q))

pub give_step : (s : Standings) (given wanted : List ℕ → Bool) (names : List (Bor (List ℕ))) (i : ℕ) (d : Bor (List ℕ)) → i < length names
    → StandBy s (λ q. (given q || has_name (plain_texts (take i names)) q) || bytes_eq q (get_or names i d).now) wanted
    → StandBy s (λ q. given q || has_name (plain_texts (take (i + 1) names)) q) wanted
give_step s given wanted names i d less stand =
    stand_same s (λ q. (given q || has_name (plain_texts (take i names)) q) || bytes_eq q (get_or names i d).now) (λ q. given q || has_name (plain_texts (take (i + 1) names)) q) wanted wanted (more_names names i d given less) (λ q. refl) stand

pub want_step : (s : Standings) (given wanted : List ℕ → Bool) (names : List (Bor (List ℕ))) (i : ℕ) (d : Bor (List ℕ)) → i < length names
    → StandBy s given (λ q. (wanted q || has_name (plain_texts (take i names)) q) || bytes_eq q (get_or names i d).now)
    → StandBy s given (λ q. wanted q || has_name (plain_texts (take (i + 1) names)) q)
want_step s given wanted names i d less stand =
    stand_same s given given (λ q. (wanted q || has_name (plain_texts (take i names)) q) || bytes_eq q (get_or names i d).now) (λ q. wanted q || has_name (plain_texts (take (i + 1) names)) q) (λ q. refl) (more_names names i d wanted less) stand

-- ---- a name of these

pub opens_if : (w g : Bool) → w ≡ false → g ≡ false → (not w && not g) ≡ true
opens_if true g is other = absurd (true≢false is)
opens_if false true is other = absurd (true≢false other)
opens_if false false is other = refl

asked_case : (P : Type 0) (q n : List ℕ) (a : Bool) → (a || bytes_eq q n) ≡ true → (a ≡ true → P) → (a ≡ false → q ≡ n → P) → P
asked_case P q n true has before now = before refl
asked_case P q n false has before now = now refl (same_bytes q n has)

-- it stands among the first, or is the next
pub asked_by : (P : Type 0) (names : List (Bor (List ℕ))) (i : ℕ) (d : Bor (List ℕ)) → i < length names → (q : List ℕ) → has_name (plain_texts (take (i + 1) names)) q ≡ true
    → (has_name (plain_texts (take i names)) q ≡ true → P) → (has_name (plain_texts (take i names)) q ≡ false → q ≡ (get_or names i d).now → P) → P
asked_by P names i d less q has before now =
    asked_case P q (get_or names i d).now (has_name (plain_texts (take i names)) q) (sym (has_more names i d less q) ∙ has) before now

pub none_of_both : (a b : Bool) → a ≡ false → b ≡ false → (a || b) ≡ false
none_of_both true b is other = absurd (true≢false is)
none_of_both false b is other = other
