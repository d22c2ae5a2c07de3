-- A street's numbers as the method takes them, and m (01, 'Travel time').
use Rattle.std.specs.Prelude.{ℕ, get_or}
use Rattle.circle.specs.Method.{Timed}
use Rattle.road.specs.Times.{time_to, rounded_links}
use Rattle.street.specs.Lists.{Lists, signals}

-- m: how many links have a rounded time
abbrev pub m : Lists → ℕ
m l = rounded_links (signals l) l.distances l.outbound l.inbound

-- a street's numbers as the method takes them: each signal's times are sums of rounded link times
abbrev pub timed : Lists → Timed
timed l =
    record {
      cycle = l.cycle;
      signals = signals l;
      red = λ j. get_or l.reds j 0;
      outbound = time_to l.distances l.outbound;
      inbound = time_to l.distances l.inbound;
    }
