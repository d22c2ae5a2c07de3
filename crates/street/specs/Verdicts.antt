-- What a check comes to, and how a call that makes some checks answers (01, 'Codes, in order of checking').
use Rattle.std.specs.Prelude.{Result, Ok, Err}
use Rattle.street.specs.declared.Refusal.{Refusal}

-- a check passes, or refuses
abbrev pub Verdict : Type 0
Verdict = Result Unit Refusal

-- what the checks of an answered call came to
abbrev pub verdict_of : {A : Type 0} → Result A Refusal → Verdict
verdict_of (Ok a) = Ok tt
verdict_of (Err f) = Err f

-- the answer to a call: its refusal, or where every check passed what was asked for
abbrev pub answered : {A : Type 0} → Verdict → A → Result A Refusal
answered (Ok u) a = Ok a
answered (Err f) a = Err f
