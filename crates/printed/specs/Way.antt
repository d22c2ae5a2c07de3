-- The whole way from a sheet's bytes to the printed text of its equal plan: the street by the form, the equal plan and the text, one after the other.
use Rattle.std.specs.Prelude.{ℕ, ◌≡◌, min, List, take, replicate}
use Rattle.road.specs.Limits.{max_signals}
use Rattle.street.specs.Lists.{Lists, signals}
use Rattle.sheet.specs.Form.{ByForm}
use Rattle.widths.specs.declared.Request.TheVariants.{Equal}
use Rattle.plans.specs.Requests.{request_answer, request_after}
use Rattle.printed.specs.declared.Printed.{Printed}
use Rattle.printed.specs.Text.{text_of, refusal_line, Prints}

-- how many entries are lent for a room: as many, but 32 at most
abbrev pub lent_of : ℕ → ℕ
lent_of room = min room max_signals

-- the text of a street's equal plan over a lent list of so many entries that are 0: the answer, and the offsets that it leaves there
unfoldable pub plan_text : Lists → ℕ → List ℕ
plan_text l room =
    text_of (request_answer Equal l (lent_of room)) (take (signals l) (request_after Equal l (replicate (lent_of room) 0)))

-- a text answers a sheet: it is that of the equal plan of the street whose text the bytes are, or else the line of the refusal that they earn, at place 0
abbrev pub Answers : List ℕ → ℕ → List ℕ → Type 0
Answers bytes room answer =
    ByForm bytes (λ l. answer ≡ plan_text l room) (λ c. answer ≡ refusal_line (record { code = c; place = 0 }))

-- the contract of what prints the answer to a sheet: the reply is the text's that answers it
pub record PrintsAnswer (bytes : List ℕ) (room : ℕ) (r : Printed) : Type 0 where
  pub answer : List ℕ
  pub answers : Answers bytes room answer
  pub prints : Prints answer r
