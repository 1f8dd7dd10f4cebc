-- The first byte past its line's limit, found a window at a time: a line ends among so many bytes, or is too long.

use Rattle.std.proofs.Common.{◌≡◌, ℕ, zero, suc, ◌+◌, ◌-◌, ◌<◌, ◌≤◌, Bool, true, false, cond, ◌==◌, List, [], ◌∷◌, length, take, drop, get_or, Some, None, refl, sym, ◌∙◌, ap, arith, length-drop}
use Rattle.std.proofs.lemmas.Bool.{eqb-true, false_from_ne_true}
use Rattle.std.proofs.lemmas.List.{get_or-take, drop-drop, length-take-le}
use Rattle.rv_parse_laws.specs.Reading.{longest_line}
use Rattle.rv_parse.specs.Lines.{past_line}

-- a byte that is not the limit's first
below : (before : ℕ) → before < longest_line → (before == longest_line) ≡ false
below before lt = go (before == longest_line) refl
  where
    go : (t : Bool) → (before == longest_line) ≡ t → t ≡ false
    go true e = let same : before ≡ longest_line = eqb-true before longest_line e in absurd (omega (arith, lt, same))
    go false e = refl

-- what a longest line holds has no byte past it
pub all_within : (bytes : List ℕ) (place before : ℕ) → before + length bytes ≤ longest_line → past_line place before bytes ≡ None
all_within [] place before le = refl
all_within (b ∷ bs) place before le =
    rw (below before (omega (arith, le))) (go (b == 10) (all_within bs (place + 1) 0 (omega (arith, le))) (all_within bs (place + 1) (before + 1) (omega (arith, le))))
  where
    go : (t : Bool) → past_line (place + 1) 0 bs ≡ None → past_line (place + 1) (before + 1) bs ≡ None → cond t (past_line (place + 1) 0 bs) (past_line (place + 1) (before + 1) bs) ≡ None
    go true new same = new
    go false new same = same

-- no line ends among more bytes than a line may have
pub too_long : (n : ℕ) (bytes : List ℕ) (place before : ℕ) → n < length bytes → before + n ≡ longest_line
    → ((k : ℕ) → k ≤ n → (get_or bytes k 0 == 10) ≡ false) → past_line place before bytes ≡ Some (place + n)
too_long n [] place before lt limit none = absurd (omega (arith, lt))
too_long zero (b ∷ bs) place before lt limit none =
    let is : before ≡ longest_line = omega (arith, limit) in
    rw (is, none 0 (omega arith)) (ap Some (omega arith))
too_long (suc n) (b ∷ bs) place before lt limit none =
    rw (none 0 (omega arith), below before (omega (arith, limit)))
    (too_long n bs (place + 1) (before + 1) (omega (arith, lt)) (omega (arith, limit)) (λ k le. none (suc k) (omega (arith, le))) ∙ ap Some (omega arith))

-- a line ends here, and none before it is too long
pub past_end : (n : ℕ) (bytes : List ℕ) (place before : ℕ) → n < length bytes → before + n ≤ longest_line → (get_or bytes n 0 == 10) ≡ true
    → past_line place before bytes ≡ past_line (place + suc n) 0 (drop (suc n) bytes)
past_end n [] place before lt fits ends = absurd (omega (arith, lt))
past_end zero (b ∷ bs) place before lt fits ends = rw ends refl
past_end (suc n) (b ∷ bs) place before lt fits ends =
    rw (below before (omega (arith, fits))) (go (b == 10) (omega arith)
    (past_end n bs (place + 1) 0 (omega (arith, lt)) (omega (arith, fits)) ends)
    (past_end n bs (place + 1) (before + 1) (omega (arith, lt)) (omega (arith, fits)) ends))
  where
    go : (t : Bool) → place + 1 + suc n ≡ place + suc (suc n) → past_line (place + 1) 0 bs ≡ past_line (place + 1 + suc n) 0 (drop (suc n) bs)
        → past_line (place + 1) (before + 1) bs ≡ past_line (place + 1 + suc n) 0 (drop (suc n) bs)
        → cond t (past_line (place + 1) 0 bs) (past_line (place + 1) (before + 1) bs) ≡ past_line (place + suc (suc n)) 0 (drop (suc n) bs)
    go true sums new same = new ∙ ap (λ p. past_line p 0 (drop (suc n) bs)) sums
    go false sums new same = same ∙ ap (λ p. past_line p 0 (drop (suc n) bs)) sums

-- the last line feed of a window that a longest line and its line feed fill
pub line_ends : (source : List ℕ) (start n end : ℕ) → n ≡ longest_line + 1 → longest_line < length source - start
    → end < length (take n (drop start source)) → (get_or (take n (drop start source)) end 0 == 10) ≡ true
    → past_line (start + (end + 1)) 0 (drop (start + (end + 1)) source) ≡ past_line start 0 (drop start source)
line_ends source start n end is long lt feed =
    let size : length (take n (drop start source)) ≡ n = length-take-le n (drop start source) (omega (arith, is, long, length-drop start source)) in
    let within : end < n = omega (arith, lt, size) in
    let here : (get_or (drop start source) end 0 == 10) ≡ true = ap (λ m. m == 10) (sym (get_or-take n (drop start source) end 0 within)) ∙ feed in
    let next : suc end ≡ end + 1 = omega arith in
    let rest : drop (suc end) (drop start source) ≡ drop (start + (end + 1)) source = drop-drop (suc end) start source ∙ ap (λ m. drop (start + m) source) next in
    let inside : end < length (drop start source) = omega (arith, long, is, within, length-drop start source) in
    sym (past_end end (drop start source) start 0 inside (omega (arith, is, within)) here
    ∙ ap (λ (xs : List ℕ). past_line (start + suc end) 0 xs) rest ∙ ap (λ m. past_line (start + m) 0 (drop (start + (end + 1)) source)) next)

-- no line feed in such a window
pub line_goes_on : (source : List ℕ) (start n : ℕ) → n ≡ longest_line + 1 → longest_line < length source - start
    → ((k : ℕ) → 0 ≤ k → k < length (take n (drop start source)) → (get_or (take n (drop start source)) k 0 == 10) ≡ true → ⊥)
    → past_line start 0 (drop start source) ≡ Some (start + longest_line)
line_goes_on source start n is long none =
    let size : length (take n (drop start source)) ≡ n = length-take-le n (drop start source) (omega (arith, is, long, length-drop start source)) in
    let inside : longest_line < length (drop start source) = omega (arith, long, length-drop start source) in
    too_long longest_line (drop start source) start 0 inside (omega arith) (λ k le. here k (omega (arith, le, is)) (omega (arith, le, is, size)))
  where
    here : (k : ℕ) → k < n → k < length (take n (drop start source)) → (get_or (drop start source) k 0 == 10) ≡ false
    here k lt inside = ap (λ m. m == 10) (sym (get_or-take n (drop start source) k 0 lt)) ∙ false_from_ne_true (get_or (take n (drop start source)) k 0 == 10) (none k (omega arith) inside)

-- what is left is short
pub line_within : (source : List ℕ) (start : ℕ) → length source - start ≤ longest_line → past_line start 0 (drop start source) ≡ None
line_within source start short = all_within (drop start source) start 0 (omega (arith, short, length-drop start source))
