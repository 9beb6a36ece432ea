-- Laws of the counts that stay at 200: below it they are exact, and a part of a sum may be counted first.
use Rattle.std.specs.Prelude.{ℕ, ◌+◌, ◌≤◌, ◌<◌, min, ◌≡◌}
use Rattle.std.proofs.Common.{arith}
use Rattle.value.specs.Test.{◌<?◌, ◌≤?◌, ◌=?◌}
use Rattle.value.proofs.Tests.{lt?, lt×?, le!, le?, eq!, eq?, pick_any, same_test}
use Rattle.haai.specs.Tables.{counted}

counted-min : (n : ℕ) → counted n ≡ min n 200
unfolding counted
counted-min n =
    pick_any (λ x. x ≡ min n 200) (n <? 200)
    (λ e. let l : n < 200 = lt? e in omega arith)
    (λ e. let l : 200 ≤ n = lt×? e in omega arith)

pub counted_exact : (n : ℕ) → n ≤ 200 → counted n ≡ n
counted_exact n h = let a = counted-min n in omega arith

pub counted_most : (n : ℕ) → counted n ≤ 200
counted_most n = let a = counted-min n in omega arith

pub counted_least : (n : ℕ) → counted n ≤ n
counted_least n = let a = counted-min n in omega arith

pub counted_order : {m n : ℕ} → m ≤ n → counted m ≤ counted n
counted_order {m} {n} h = let a = counted-min m in let b = counted-min n in omega arith

pub counted_sum : (m n : ℕ) → counted (counted m + counted n) ≡ counted (m + n)
counted_sum m n =
    let a = counted-min m in
    let b = counted-min n in
    let c = counted-min (counted m + counted n) in
    let d = counted-min (m + n) in omega arith

-- a count of m, and d or e more
pub counted_more : (c m d e : ℕ) → c ≡ counted m → counted d ≡ counted e → counted (c + d) ≡ counted (m + e)
counted_more c m d e p q =
    let a = counted-min m in
    let b = counted-min d in
    let f = counted-min e in
    let g = counted-min (c + d) in
    let h = counted-min (m + e) in omega arith

-- a count is as good as the number beside one below 200
module _ (m n : ℕ) (h : n < 200) where
  pub counted_eq : (counted m =? n) ≡ (m =? n)
  counted_eq =
      let a = counted-min m in
      same_test (counted m =? n) (m =? n)
      (λ e. let q : counted m ≡ n = eq? e in eq! (omega arith))
      (λ e. let q : m ≡ n = eq? e in eq! (omega arith))

  pub counted_le : (counted m ≤? n) ≡ (m ≤? n)
  counted_le =
      let a = counted-min m in
      same_test (counted m ≤? n) (m ≤? n)
      (λ e. let q : counted m ≤ n = le? e in le! (omega arith))
      (λ e. let q : m ≤ n = le? e in le! (omega arith))
