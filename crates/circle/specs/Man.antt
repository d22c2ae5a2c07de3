-- The remainder on a circle of time (01, 'Units and the street').
use Rattle.std.specs.Prelude.{ℕ, suc, ◌-◌, ◌%◌, ℤ, pos, negsuc}

-- man z: the remainder of z by the cycle H, in 0 to H - 1 for every z, negative ones too: -(k + 1) comes to k % H + 1 before H
abbrev pub man : ℕ → ℤ → ℕ
man H (pos a) = a % H
man H (negsuc k) = H - suc (k % H)
