-- The queue's loops: the rest from here is the whole. Assumes nothing.
use Prim.Native.Nat.{ℕ, zero, suc, ◌+◌, ◌*◌, ◌-◌, ◌/◌, ◌≤◌, ◌<◌, max}
use native.Mathlib.Omega.{arith}
use mathlib.Core.Path.{◌≡◌, refl}
use mathlib.Core.List.{List}
use lib.ListN.{length, get_or, set, length-set}
use Rattle.queue.specs.QueueWalk.{play_at, climb, leaves_from, play_from}

pub climb_more : (k : ℕ) (q : List ℕ) (i : ℕ) → k < 9 → climb (9 - (k + 1)) (play_at q (i / 2)) (i / 2) ≡ climb (9 - k) q i
unfolding climb
climb_more k q i h = let e : 9 - k ≡ suc (9 - (k + 1)) = omega arith in rw e

pub climb_end : (n : ℕ) (q : List ℕ) (i : ℕ) → n ≤ 0 → climb n q i ≡ q
unfolding climb
climb_end zero q i h = refl
climb_end (suc n) q i h = absurd (omega arith)

pub leaves_more : (f : ℕ → ℕ) (v : ℕ) (q : List ℕ) → v < 512 → leaves_from f (512 - (v + 1)) (v + 1) (set q (512 + v) (f v)) ≡ leaves_from f (512 - v) v q
unfolding leaves_from
leaves_more f v q h =
    let e : 512 - v ≡ suc (512 - (v + 1)) = omega arith in
    let d : v + 1 ≡ suc v = omega arith in
    rw (e, d)

pub leaves_end : (f : ℕ → ℕ) (v : ℕ) (q : List ℕ) → 512 ≤ v → leaves_from f (512 - v) v q ≡ q
unfolding leaves_from
leaves_end f v q h = let e : 512 - v ≡ zero = omega arith in rw e

pub plays_more : (n : ℕ) (q : List ℕ) → 0 < n → play_from (n - 1) (play_at q n) ≡ play_from n q
unfolding play_from
plays_more zero q h = absurd (omega arith)
plays_more (suc n) q h = let e : suc n - 1 ≡ n = omega arith in rw e

pub plays_end : (n : ℕ) (q : List ℕ) → n ≤ 0 → play_from n q ≡ q
unfolding play_from
plays_end zero q h = refl
plays_end (suc n) q h = absurd (omega arith)

pub play_length : (q : List ℕ) (i : ℕ) → length (play_at q i) ≡ length q
unfolding play_at
play_length q i = length-set q i (max (get_or q (2 * i) 0) (get_or q (2 * i + 1) 0))
