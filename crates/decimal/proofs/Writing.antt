-- Writing over a list of bytes, in steps. Writing a and then b where a ends is writing a ++ b once. A digit written into its own place
-- first leaves the digits before it to be written, and with none left the list is as it is to be. No step changes how many bytes
-- there are. A loop that writes part after part keeps what of the whole is unwritten. Assumes nothing.
use Prim.Native.Nat.{ℕ, suc, ◌+◌, ◌≤◌, ◌<◌}
use native.Mathlib.Nat.{add-zero, add_assoc}
use native.Mathlib.Omega.{arith}
use mathlib.Core.Path.{◌≡◌, refl, sym, ap, ap₂, ◌∙◌}
use mathlib.Core.List.{List, [], ◌∷◌, ◌++◌, append_assoc, append-nil}
use lib.ListN.{length, take, drop, set, length-append, length-drop, take-append-drop}
use lib.Seq.{lt-length-set, length-take-le, take_at, drop_at, drop-drop, drop-cons, drop-set-lt, take-set-le, get_or-set_same, append_snoc}
use Rattle.decimal.specs.Steps.{overwritten, Writes}

-- nothing written
pub overwritten-none : (at : ℕ) (l : List ℕ) → overwritten at [] l ≡ l
overwritten-none at l = rw (append-nil, add-zero, take-append-drop)

-- how many bytes there are stays
pub length_overwritten : (at : ℕ) (more l : List ℕ) → at + length more ≤ length l → length (overwritten at more l) ≡ length l
length_overwritten at more l room =
    simp (length-append, length-drop) (let e = length-take-le at l (omega arith) in omega arith)

-- the last byte may go in first
pub last-first :
    (at d : ℕ) (more l : List ℕ)
    → at + length more < length l
    → overwritten at more (set l (at + length more) d) ≡ overwritten at (more ++ d ∷ []) l
last-first at d more l room =
    let i = at + length more in
    let stored = set l i d in
    let e : at + length (more ++ d ∷ []) ≡ suc i = simp length-append (omega arith) in
    rw (
      take-set-le at l i d (omega arith),
      drop-cons stored i 0 (lt-length-set l i d room),
      get_or-set_same l i d 0 room,
      drop-set-lt (suc i) l i d (omega arith),
      e,
      ← append_assoc (take at l) more (d ∷ []),
      append_snoc (take at l ++ more) d (drop (suc i) l),
    )

-- where a is written, b goes on
module _ (at : ℕ) (a b l : List ℕ) (within : at ≤ length l) where
  front : length (take at l ++ a) ≡ at + length a
  front = length-append (take at l) a ∙ ap (λ (m : ℕ). m + length a) (length-take-le at l within)

  past : drop (at + length a + length b) l ≡ drop (at + length (a ++ b)) l
  past = ap (λ (m : ℕ). drop m l) (add_assoc at (length a) (length b) ∙ ap (λ (m : ℕ). at + m) (sym (length-append a b)))

  joined : overwritten (at + length a) b (overwritten at a l) ≡ overwritten at (a ++ b) l
  joined =
      rw (
        take_at (take at l ++ a) (drop (at + length a) l) (at + length a) front,
        ← drop-drop (length b) (at + length a) (overwritten at a l),
        drop_at (take at l ++ a) (drop (at + length a) l) (at + length a) front,
        drop-drop (length b) (at + length a) l,
        past,
        append_assoc (take at l) a b,
      )

-- a step leaves as many bytes as there were
pub writes_length : {at n : ℕ} {a l l' : List ℕ} → at + length a ≤ length l → Writes at a l l' n → length l' ≡ length l
writes_length {at} {a} {l} room w = ap length w.after ∙ length_overwritten at a l room

-- where a step wrote a, what is written next goes behind it, and there is room for it
module _ {at n : ℕ} {a l l' : List ℕ} (b : List ℕ) (w : Writes at a l l' n) where
  pub room_left : at + length (a ++ b) ≤ length l → n + length b ≤ length l'
  room_left room =
      let both = length-append a b in
      let same = writes_length (omega arith) w in
      omega arith

  pub goes_on : at ≤ length l → overwritten n b l' ≡ overwritten at (a ++ b) l
  goes_on within = ap₂ (λ k xs. overwritten k b xs) w.next w.after ∙ joined at a b l within

-- two steps, the second from where the first one ended
pub writes_twice :
    {at n r : ℕ} {a b l l' l'' : List ℕ}
    → at ≤ length l
    → Writes at a l l' n
    → Writes n b l' l'' r
    → Writes at (a ++ b) l l'' r
writes_twice {a} {b} within first second =
    record { after = second.after ∙ goes_on b first within; next = simp length-append (omega arith) }

-- the same bytes, grouped otherwise
pub writes_as : {at r : ℕ} {a b l l' : List ℕ} → a ≡ b → Writes at a l l' r → Writes at b l l' r
writes_as e w = rw (← e) w

-- room for two parts is room for the first
pub room_first : (at n : ℕ) (a b : List ℕ) → at + length (a ++ b) ≤ n → at + length a ≤ n
room_first at n a b room = omega (arith, length-append a b)

-- a loop writes part after part: with the rest still to be written from a place on, the list becomes what it is to become
pub record Unwritten (at : ℕ) (whole before : List ℕ) (next : ℕ) (rest now : List ℕ) : Type 0 where
  pub size : length now ≡ length before
  pub end : next + length rest ≡ at + length whole
  pub becomes : overwritten next rest now ≡ overwritten at whole before

pub nothing_written : (at : ℕ) (whole before : List ℕ) → Unwritten at whole before at whole before
nothing_written at whole before = record { size = refl; end = refl; becomes = refl }

-- where a part comes first in the rest, there is room for it, and once it is written what follows is still to be
module _ {at next : ℕ} {whole before rest now : List ℕ} (room : at + length whole ≤ length before) (l : Unwritten at whole before next rest now) (part later : List ℕ) (e : rest ≡ part ++ later) where
  pub part_fits : next + length part ≤ length now
  part_fits = omega (arith, room, l.size, l.end, ap length e, length-append part later)

  pub part_written : {next' : ℕ} {now' : List ℕ} → Writes next part now now' next' → Unwritten at whole before next' later now'
  part_written w =
      record {
        size = writes_length part_fits w ∙ l.size;
        end = omega (arith, w.next, l.end, ap length e, length-append part later);
        becomes = goes_on later w (omega (arith, part_fits)) ∙ ap (λ (xs : List ℕ). overwritten next xs now) (sym e) ∙ l.becomes;
      }

-- with nothing unwritten, all is written
pub all_written : {at next : ℕ} {whole before rest now : List ℕ} → rest ≡ [] → Unwritten at whole before next rest now → Writes at whole before now next
all_written {at} {next} {whole} {before} {rest} {now} e l =
    record {
      after = sym (overwritten-none next now) ∙ ap (λ (xs : List ℕ). overwritten next xs now) (sym e) ∙ l.becomes;
      next = omega (arith, l.end, ap length e);
    }
