-- What a network means: its nodes, its arcs beneath every lock-out, and its lock-outs; and what each call
-- answers and leaves.
use Rattle.std.specs.Prelude.{◌≡◌, ℕ, suc, ◌-◌, ◌<◌, Bool, true, false, cond, ◌||◌, List, [], ◌∷◌, length, ℤ, pos, Some, None, Option, ◌==◌, nat_le, nat_lt, slice_index_or, slice_set}
use Rattle.std.specs.List.{slice_get}
use Rattle.std.specs.Option.{option_map}
use Rattle.networks.specs.declared.network.Arc.{Arc}
use Rattle.networks.specs.Limits.{cost_limit}
use Rattle.networks.specs.Answers.{Told, unless}

-- a lock-out: how many arcs it stands over, and its lines, each an arc that is out, or 0 where it is free
pub record Lock : Type 0 where
  pub over : ℕ
  pub lines : List ℕ

-- the lock-outs have the highest first
pub record Net (C : Type 0) : Type 0 where
  pub nodes : ℕ
  pub arcs : List (Arc C)
  pub locks : List Lock

-- the a-th of a list that counts from 1
abbrev pub numbered : {X : Type 0} → List X → ℕ → Option X
numbered xs a = cond (a == 0) None (slice_get xs (a - 1))

-- each item of a list turned into another by its number, the first of number k
abbrev pub mapped_from : {X Y : Type 0} → (ℕ → X → Y) → ℕ → List X → List Y
mapped_from f k [] = []
mapped_from f k (x ∷ rest) = f k x ∷ mapped_from f (suc k) rest

-- x stands at place i, counted from 0
abbrev pub IsAt : {X : Type 0} → List X → ℕ → X → Type 0
IsAt xs i x = (i < length xs) × (x ≡ slice_index_or xs i x)

-- the list with its a-th replaced, where there is a new one
abbrev pub replaced : {X : Type 0} → List X → ℕ → Option X → List X
replaced xs a None = xs
replaced xs a (Some x) = slice_set xs (a - 1) x

-- the first place of x, or the length
abbrev pub place : ℕ → List ℕ → ℕ
place x [] = 0
place x (y ∷ ys) = cond (y == x) 0 (suc (place x ys))

abbrev pub has : ℕ → List ℕ → Bool
has x ys = nat_lt (place x ys) (length ys)

-- the place of x, where it is there
abbrev pub line_with : ℕ → List ℕ → Option ℕ
line_with x ys = cond (has x ys) (Some (place x ys)) None

-- the place of arc a: a place that holds 0 is free
abbrev pub arc_line : ℕ → List ℕ → Option ℕ
arc_line a ys = cond (a == 0) None (line_with a ys)

-- a lock-out stands over no such arc
abbrev pub lacks : Lock → ℕ → Bool
lacks o a = a == 0 || nat_lt o.over a

-- arc a is out at one lock-out: it is one of its arcs, and a line holds it
abbrev pub out_at : Lock → ℕ → Bool
out_at o a = cond (lacks o a) false (has a o.lines)

-- arc a is out at some lock-out
abbrev pub is_out : List Lock → ℕ → Bool
is_out [] a = false
is_out (o ∷ os) a = cond (out_at o a) true (is_out os a)

-- an arc that is out shows 0 to 0 and is held
abbrev pub shut : {C : Type 0} → Arc C → Arc C
shut x = record { from = x.from; to = x.to; lo = pos 0; hi = pos 0; cost = x.cost; held = true; fixed = x.fixed }

abbrev pub shown_arc : {C : Type 0} → Bool → Arc C → Arc C
shown_arc out x = cond out (shut x) x

-- arc a as the network shows it
abbrev pub arc_at : {C : Type 0} → Net C → ℕ → Option (Arc C)
arc_at n a = option_map (shown_arc (is_out n.locks a)) (numbered n.arcs a)

-- all arcs from number k on, as they show
abbrev pub shown_from : {C : Type 0} → ℕ → List Lock → List (Arc C) → List (Arc C)
shown_from k locks arcs = mapped_from (λ a. shown_arc (is_out locks a)) k arcs

abbrev pub shown : {C : Type 0} → Net C → List (Arc C)
shown n = shown_from 1 n.locks n.arcs

-- rebound: 8 where there is no such arc, 9 where it is held
abbrev pub held_stop : {C : Type 0} → ℕ → Option (Arc C) → Option Told
held_stop a None = Some (8, a)
held_stop a (Some x) = cond x.held (Some (9, a)) None

abbrev pub rebound_stop : {C : Type 0} → Net C → ℕ → Option Told
rebound_stop n a = held_stop a (arc_at n a)

abbrev pub with_bounds : {C : Type 0} → ℤ → ℤ → Arc C → Arc C
with_bounds lo hi x = record { from = x.from; to = x.to; lo = lo; hi = hi; cost = x.cost; held = x.held; fixed = x.fixed }

-- the arc beneath all lock-outs has other bounds
abbrev pub rebounded : {C : Type 0} → Net C → ℕ → ℤ → ℤ → Net C
rebounded n a lo hi = unless (rebound_stop n a) n (record { nodes = n.nodes; arcs = replaced n.arcs a (option_map (with_bounds lo hi) (numbered n.arcs a)); locks = n.locks })

-- recost: 8 where there is no such arc, 10 where its cost is fixed, 4 where the new cost is too large
abbrev pub cost_stop : {C : Type 0} → (C → ℕ) → ℕ → C → Option (Arc C) → Option Told
cost_stop size a c None = Some (8, a)
cost_stop size a c (Some x) = cond x.fixed (Some (10, a)) (cond (nat_le (size c) cost_limit) None (Some (4, a)))

abbrev pub recost_stop : {C : Type 0} → (C → ℕ) → Net C → ℕ → C → Option Told
recost_stop size n a c = cost_stop size a c (arc_at n a)

abbrev pub with_cost : {C : Type 0} → C → Arc C → Arc C
with_cost c x = record { from = x.from; to = x.to; lo = x.lo; hi = x.hi; cost = c; held = x.held; fixed = x.fixed }

abbrev pub recosted : {C : Type 0} → (C → ℕ) → Net C → ℕ → C → Net C
recosted size n a c = unless (recost_stop size n a c) n (record { nodes = n.nodes; arcs = replaced n.arcs a (option_map (with_cost c) (numbered n.arcs a)); locks = n.locks })

-- lock-out number l, counted from the lowest, 1 upward
abbrev pub lock_at : List Lock → ℕ → Option Lock
lock_at [] l = None
lock_at (o ∷ os) l = cond (l == suc (length os)) (Some o) (lock_at os l)

abbrev pub with_lock : List Lock → ℕ → (Lock → Lock) → List Lock
with_lock [] l f = []
with_lock (o ∷ os) l f = cond (l == suc (length os)) (f o ∷ os) (o ∷ with_lock os l f)

abbrev pub relocked : {C : Type 0} → Net C → ℕ → (Lock → Lock) → Net C
relocked n l f = record { nodes = n.nodes; arcs = n.arcs; locks = with_lock n.locks l f }

-- take-out: 8 where the lock-out does not stand over such an arc, 9 where it is out there, 11 where no line is free
abbrev pub line_stop : ℕ → Option Lock → Option Told
line_stop a None = Some (8, a)
line_stop a (Some o) = cond (lacks o a) (Some (8, a)) (cond (has a o.lines) (Some (9, a)) (cond (has 0 o.lines) None (Some (11, 0))))

abbrev pub take_out_stop : {C : Type 0} → Net C → ℕ → ℕ → Option Told
take_out_stop n l a = line_stop a (lock_at n.locks l)

-- a line that holds x comes to hold y
abbrev pub relined : ℕ → ℕ → Lock → Lock
relined x y o = record { over = o.over; lines = slice_set o.lines (place x o.lines) y }

-- a free line takes the arc
abbrev pub taken : {C : Type 0} → Net C → ℕ → ℕ → Net C
taken n l a = unless (take_out_stop n l a) n (relocked n l (relined 0 a))

-- hand-back: 12 where the arc is not out at that lock-out
abbrev pub back_stop : ℕ → Option Lock → Option Told
back_stop a None = Some (12, a)
back_stop a (Some o) = cond (out_at o a) None (Some (12, a))

abbrev pub hand_back_stop : {C : Type 0} → Net C → ℕ → ℕ → Option Told
hand_back_stop n l a = back_stop a (lock_at n.locks l)

-- the arc's line is free again
abbrev pub handed_back : {C : Type 0} → Net C → ℕ → ℕ → Net C
handed_back n l a = unless (hand_back_stop n l a) n (relocked n l (relined a 0))
