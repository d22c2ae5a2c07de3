-- The lines of a section, read one by one. `prepend` puts the lines read so far above those still to come, so a loop over the lines keeps
-- 'the lines from the start are those so far above those from here'; each step is the definition of `pairs` computed at its first line.
-- The arrays hold the columns so far, and 0 from there on. Assumes nothing.
use Prim.Native.Nat.{ℕ, suc, ◌+◌, ◌-◌, ◌≤◌, ◌<◌}
use mathlib.Core.Path.{◌≡◌, refl, sym, ap, ap₂, ◌∙◌}
use mathlib.Core.List.{List, [], ◌∷◌, ◌++◌, append-nil}
use native.Mathlib.Omega.{arith}
use native.Mathlib.Numerals.{add-one}
use lib.ListN.{length, take, drop, set, replicate, length-set, take-append-drop}
use lib.Seq.{append_snoc, take-suc-set, drop-set-lt, length-take-le, drop-drop}
use Rattle.std.specs.Prelude.{Option, Some, None, option_map}
use Rattle.road.specs.Limits.{max_signals}
use Rattle.road.specs.Steps.{Zeros}
use Rattle.sheet.specs.Reading.{in_array}
use Rattle.sheet.specs.Steps.Sections.{Lines, above, in_arrays, pair, pairs}

abbrev pub prepend : List ℕ → List ℕ → Lines → Lines
prepend xs ys l = (xs ++ l.0, ys ++ l.1, l.2)

prepend-none : (o : Option Lines) → o ≡ option_map (prepend [] []) o
prepend-none None = refl
prepend-none (Some l) = refl

prepend-above : (xs ys : List ℕ) (x y : ℕ) (o : Option Lines) →
    option_map (prepend xs ys) (option_map (above x y) o) ≡ option_map (prepend (xs ++ x ∷ []) (ys ++ y ∷ [])) o
prepend-above xs ys x y None = refl
prepend-above xs ys x y (Some l) = simp append_snoc

-- an array of a street's entries of which i are in use: 0 from there on
pub record Filled (i : ℕ) (xs : List ℕ) : Type 0 where
  pub size : length xs ≡ max_signals
  pub zeros : drop i xs ≡ drop i (replicate max_signals 0)

filled_more : (i x : ℕ) (xs : List ℕ) → i < max_signals → Filled i xs → Filled (i + 1) (set xs i x)
filled_more i x xs h f =
    record {
      size = length-set xs i x ∙ f.size;
      zeros = rw add-one
          (drop-set-lt (suc i) xs i x (omega arith)
          ∙ sym (tail xs)
          ∙ ap (drop 1) f.zeros
          ∙ tail (replicate max_signals 0));
    }
  where
    tail : (ys : List ℕ) → drop 1 (drop i ys) ≡ drop (suc i) ys
    tail ys = drop-drop 1 i ys ∙ ap (λ (k : ℕ). drop k ys) (add-one i)

filled_take : (i x : ℕ) (xs : List ℕ) → i < max_signals → Filled i xs → take (i + 1) (set xs i x) ≡ take i xs ++ x ∷ []
filled_take i x xs h f = rw add-one (take-suc-set xs i x (omega arith))

filled_in_array : (n : ℕ) (xs : List ℕ) → n ≤ max_signals → Filled n xs → xs ≡ in_array (take n xs)
filled_in_array n xs h f =
    sym (take-append-drop n xs)
    ∙ ap (λ (z : List ℕ). take n xs ++ z) (f.zeros ∙ ap (λ (k : ℕ). drop k (replicate max_signals 0)) (sym size))
  where
    size : length (take n xs) ≡ n
    size = length-take-le n xs (omega (arith, f.size))

-- the loop over the lines: i of them are in the arrays, and the rest is to be read
pub record SoFar (bytes : List ℕ) (count : ℕ) (left right rest : List ℕ) (i : ℕ) : Type 0 where
  pub within : i ≤ count
  pub joined : pairs count bytes ≡ option_map (prepend (take i left) (take i right)) (pairs (count - i) rest)
  pub lefts : Filled i left
  pub rights : Filled i right

filled_none : {xs : List ℕ} → Zeros xs → Filled 0 xs
filled_none z = record { size = ap length z; zeros = z }

pub so_far-none : (bytes : List ℕ) (count : ℕ) (left right : List ℕ) → Zeros left → Zeros right → SoFar bytes count left right bytes 0
so_far-none bytes count left right l r =
    record {
      within = omega arith;
      joined = prepend-none _ ∙ ap (λ (k : ℕ). option_map (prepend [] []) (pairs k bytes)) (omega arith);
      lefts = filled_none l;
      rights = filled_none r;
    }

-- a turn of the loop: a line is left to read, and the arrays have room for it
module _ {bytes : List ℕ} {count : ℕ} {left right rest : List ℕ} {i : ℕ} (v : SoFar bytes count left right rest i) (h : i < count) (few : count ≤ max_signals) where
  one_more : count - i ≡ suc (count - (i + 1))
  one_more = omega arith

  -- it cannot be read: the lines stop here
  pub no_line : None ≡ pair rest → pairs count bytes ≡ None
  unfolding pairs
  no_line e = v.joined ∙ rw (one_more, ← e) refl

  -- it goes into the arrays
  pub one_line : (x y : ℕ) (below : List ℕ) → Some (x, y, below) ≡ pair rest → SoFar bytes count (set left i x) (set right i y) below (i + 1)
  unfolding pairs
  one_line x y below e =
      let room : i < max_signals = omega arith in
      let later : Option Lines = pairs (count - (i + 1)) below in
      let line : pairs (count - i) rest ≡ option_map (above x y) later = rw (one_more, ← e) refl in
      record {
        within = omega arith;
        joined =
            v.joined
            ∙ ap (option_map (prepend (take i left) (take i right))) line
            ∙ prepend-above (take i left) (take i right) x y later
            ∙ sym
            (ap₂ (λ (xs ys : List ℕ). option_map (prepend xs ys) later) (filled_take i x left room v.lefts) (filled_take i y right room v.rights));
        lefts = filled_more i x left room v.lefts;
        rights = filled_more i y right room v.rights;
      }

-- no line is left: all of them are in the arrays
pub so_far_all : {bytes : List ℕ} {count : ℕ} {left right rest : List ℕ} {i : ℕ} → SoFar bytes count left right rest i → count ≤ max_signals → count ≤ i →
    option_map in_arrays (pairs count bytes) ≡ Some (left, right, rest)
unfolding pairs
so_far_all {bytes} {count} {left} {right} {rest} {i} v few h =
    let n : i ≡ count = omega (arith, v.within) in
    let z : count - i ≡ 0 = omega arith in
    let whole : pairs count bytes ≡ Some (take i left, take i right, rest) = v.joined ∙ rw z (simp append-nil) in
    rw whole (cc (filled_in_array i left (omega arith) v.lefts, filled_in_array i right (omega arith) v.rights))
