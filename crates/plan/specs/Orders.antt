-- Orders over any cells, by name or by number, and the machine's run over names. Over numbers they are the unit's orders (`order_of`).
use Rattle.std.specs.Prelude.{ℕ, ◌≡◌, refl, cond, List, [], ◌∷◌, set}
use Rattle.definitions.specs.declared.Order.{Order}
use Rattle.definitions.specs.declared.Order.TheVariants as unit
use Rattle.plan.specs.Names.{Name, same}
use Rattle.definitions.specs.Machine.{cell, plus, minus, times, less_than, same_as, step_of}

-- the five kinds of order that read two cells
pub data Operation : Type 0 where
  adding subtracting multiplying comparing equating : Operation

-- an order: its target, then a constant or an operation and the two cells that it reads
pub data OrderOn (A : Type 0) : Type 0 where
  constant : A → ℕ → OrderOn A
  operate : Operation → A → A → A → OrderOn A

module _ {A : Type 0} where
  -- the cell that an order writes
  abbrev pub target : OrderOn A → A
  target (constant d k) = d
  target (operate op d a b) = d

  -- d takes a + b
  abbrev pub sum : A → A → A → OrderOn A
  sum d a b = operate adding d a b

  -- d takes a - b
  abbrev pub difference : A → A → A → OrderOn A
  difference d a b = operate subtracting d a b

  -- d takes a * b
  abbrev pub product : A → A → A → OrderOn A
  product d a b = operate multiplying d a b

  -- d takes 1 if a is less than b, else 0
  abbrev pub less : A → A → A → OrderOn A
  less d a b = operate comparing d a b

  -- d takes 1 if a and b are equal, else 0
  abbrev pub equal : A → A → A → OrderOn A
  equal d a b = operate equating d a b

-- what an operation makes of two numbers: the definitions' own words
abbrev pub result : Operation → ℕ → ℕ → ℕ
result adding x y = plus x y
result subtracting x y = minus x y
result multiplying x y = times x y
result comparing x y = less_than x y
result equating x y = same_as x y

module _ {A : Type 0} (s : A → ℕ) where
  -- what an order writes, where cell a holds s a
  abbrev pub outcome : OrderOn A → ℕ
  outcome (constant d k) = k
  outcome (operate op d a b) = result op (s a) (s b)

-- ---- over cell numbers

-- the machine's order
abbrev pub order_of : OrderOn ℕ → Order
order_of (constant d k) = unit.Constant d k
order_of (operate adding d a b) = unit.Sum d a b
order_of (operate subtracting d a b) = unit.Difference d a b
order_of (operate multiplying d a b) = unit.Product d a b
order_of (operate comparing d a b) = unit.Less d a b
order_of (operate equating d a b) = unit.Equal d a b

pub step_is : (s : List ℕ) (o : OrderOn ℕ) → step_of s (order_of o) ≡ set s (target o) (outcome (cell s) o)
step_is s (constant d k) = refl
step_is s (operate adding d a b) = refl
step_is s (operate subtracting d a b) = refl
step_is s (operate multiplying d a b) = refl
step_is s (operate comparing d a b) = refl
step_is s (operate equating d a b) = refl

-- ---- over names

-- what each named cell holds
abbrev pub State : Type 0
State = Name → ℕ

-- the state s but with v in cell c
abbrev pub update : State → Name → ℕ → State
update s c v x = cond (same c x) v (s x)

-- the state after one order
abbrev pub step : State → OrderOn Name → State
step s o = update s (target o) (outcome s o)

-- the state after some orders, one after another
abbrev pub run : List (OrderOn Name) → State → State
run [] s = s
run (o ∷ l) s = run l (step s o)

module _ {A B : Type 0} (f : A → B) where
  -- an order with each cell renamed
  abbrev pub renamed : OrderOn A → OrderOn B
  renamed (constant d k) = constant (f d) k
  renamed (operate op d a b) = operate op (f d) (f a) (f b)
