-- What is written anew behind some bytes and their padding.

use Rattle.std.proofs.Common.{◌≡◌, ◌∙◌, ℕ, ◌+◌, ◌-◌, ◌≤◌, List, [], ◌++◌, length, take, drop, replicate, ap, sym, append_assoc, append-nil, arith}
use Rattle.std.proofs.lemmas.List.{drop_all, drop_at, length-append, length-replicate, take_all, take_at}

module _ (old k x : List ℕ) (place : ℕ) (low : length old ≤ place) (is : x ≡ old ++ (replicate {A = ℕ} (place - length old) 0 ++ k)) where
  abbrev front : List ℕ
  front = old ++ replicate {A = ℕ} (place - length old) 0

  front_is : x ≡ front ++ k
  front_is = is ∙ sym (append_assoc old (replicate {A = ℕ} (place - length old) 0) k)

  front_size : length front ≡ place
  front_size =
      let both : length front ≡ length old + length (replicate {A = ℕ} (place - length old) 0) = length-append old (replicate {A = ℕ} (place - length old) 0) in
      let zeros : length (replicate {A = ℕ} (place - length old) 0) ≡ place - length old = length-replicate {A = ℕ} (place - length old) 0 in
      omega (arith, low)

  -- the part behind the padding
  pub padded_part : take (length x - place) (drop place x) ≡ k
  padded_part =
      let behind : drop place x ≡ k = ap (drop place) front_is ∙ drop_at front k place front_size in
      ap (take (length x - place)) behind ∙ take_all (length x - place) k (omega (arith, ap length front_is, length-append front k, front_size))

  -- and that part written anew
  pub padded_new : (new past : List ℕ) (total : ℕ) → length new ≡ length k → past ≡ [] → total ≡ length x
      → take total (take place x ++ (new ++ past) ++ drop (length (take place x ++ (new ++ past))) x) ≡ old ++ (replicate {A = ℕ} (place - length old) 0 ++ new)
  padded_new new past total same none all =
      let start : take place x ≡ front = ap (take place) front_is ∙ take_at front k place front_size in
      let body : take place x ++ (new ++ past) ≡ front ++ new = ap (λ l. l ++ (new ++ past)) start ∙ ap (λ l. front ++ (new ++ l)) none ∙ ap (λ l. front ++ l) (append-nil new) in
      let size : length (front ++ new) ≡ length x = length-append front new ∙ ap (λ m. length front + m) same ∙ sym (length-append front k) ∙ sym (ap length front_is) in
      let rest : drop (length (take place x ++ (new ++ past))) x ≡ [] = ap (λ l. drop (length l) x) body ∙ drop_all (length (front ++ new)) x (omega (arith, size)) in
      let whole : take place x ++ (new ++ past) ++ drop (length (take place x ++ (new ++ past))) x ≡ front ++ new = ap (λ l. take place x ++ (new ++ past) ++ l) rest ∙ append-nil (take place x ++ (new ++ past)) ∙ body in
      ap (take total) whole ∙ take_all total (front ++ new) (omega (arith, size, all)) ∙ append_assoc old (replicate {A = ℕ} (place - length old) 0) new
