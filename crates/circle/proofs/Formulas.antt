-- Laws of the method's formulas, and here those that other crates cite: B and each width raised by the cycle, so that they are naturals; the reference; the range of a request, the
-- lowerings and the platoon rule; that all of it goes by the signals alone; and a street where every signal rests.
pub use Rattle.circle.proofs.Formulas.Method.{Agree, B_agree, equal_width_agree, offset_lt, red_end_agree, red_start_agree, reference_agree, reference_lt, u_reduced}
pub use Rattle.circle.proofs.Formulas.Raised.{B_raised, B⁺, Fit, limit, limit_le, limit_red, limit_rest, raised, rank, reference_is}
pub use Rattle.circle.proofs.Formulas.Reference.{B⁺_le, phase_red, phase_rest, reference-first}
pub use Rattle.circle.proofs.Formulas.Moving.{B⁺_is, asked, asked_green, equal_width_lem, g_is, green, green_is, green_le, inbound-lowering, other_width_lem, outbound-lowering, outside, resting_inbound, resting_outbound, within}
pub use Rattle.circle.proofs.Formulas.Platoons.{found_fit, found_le, found-past, platoon_le, platoons_alone, platoons_none, platoons_range, platoons_some}
pub use Rattle.circle.proofs.Formulas.AgreeMoved.{in_range_agree, inbound_lowering_agree, lowered_agree, other_width_agree, outbound_lowering_agree, platoon_width_agree}
pub use Rattle.circle.proofs.Formulas.Resting.{resting_B, resting_asked, resting_other, resting_range, resting_reference, resting_width}
pub mod Method
pub mod Raised
pub mod Reference
pub mod Moving
pub mod Platoons
pub mod Paper
pub mod AgreeMoved
pub mod Former
pub mod Resting
pub mod Joined
