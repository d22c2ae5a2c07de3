-- Laws of numbers, and here those that other crates cite: signed numbers as differences of naturals, remainders on a circle, and sums, choices and searches over indices.
pub use Rattle.circle.proofs.Numbers.Signed.{neg_sub, pos_less, pos_min, pos_minus, pos_sub, sub_eq, sub_injective, sub_neg, sub_pos}
pub use Rattle.circle.proofs.Numbers.Man.{Turns, man_is, man_lt, man_step, man_turns, minus_minus}
pub use Rattle.circle.proofs.Numbers.Over.{fill_store, first_at, first_ext, first-none, first_nowhere, get_or-list_below, length_list_below, list_ext, max_ge, max_more, min_more, min_below, sum_more, sum_rises}
pub use Rattle.circle.proofs.Numbers.Where.{least_more, least-raised, over_all}
pub use Rattle.circle.proofs.Numbers.Tests.{all_each, cond_left, cond_right}
pub mod Signed
pub mod Man
pub mod Over
pub mod Tests
pub mod Where
pub mod Least
pub mod Rounds
