-- The bounds of the figures are a proposition.
use Rattle.std.proofs.Common.{◌≡◌, ℕ, ◌<◌, ◌≤◌, pos}
use mathlib.Core.Logic.{∥∥₁_elim}
use denote.Struct.Props.{props}
use Rattle.register.specs.declared.line.Line.{Line}
use Rattle.register.specs.Lines.{line}
use Rattle.rules.specs.declared.figures.Member.{Member}
use Rattle.rules.specs.declared.figures.Figures.{Figures}
use Rattle.rules.specs.State.{member}
use Rattle.rules.specs.Fit.{Shape, Known, LineFits, MemberFits, Bounds, Fit}

at_most : {m n : ℕ} → IsProp (m ≤ n)
at_most = hlevel props

above : {m n : ℕ} → IsProp (m < n)
above = hlevel props

equal : {m n : ℕ} → IsProp (m ≡ n)
equal = hlevel props

shape_prop : (f : Figures) → IsProp (Shape f)
shape_prop f p q = λ i. record {
  some_member = above p.some_member q.some_member i;
  few_members = at_most p.few_members q.few_members i;
  some_security = above p.some_security q.some_security i;
  few_securities = at_most p.few_securities q.few_securities i;
  some_day = above p.some_day q.some_day i;
  last = at_most p.last q.last i;
  few_lines = at_most p.few_lines q.few_lines i;
  places = equal p.places q.places i;
  records = equal p.records q.records i;
  rows = equal p.rows q.rows i;
  cells = λ m l. equal (p.cells m l) (q.cells m l) i;
  closes = equal p.closes q.closes i;
}

known_prop : (f : Figures) (l : Line) → IsProp (Known f l)
known_prop f l p q = λ i. record {
  some_member = above p.some_member q.some_member i;
  member_known = at_most p.member_known q.member_known i;
  some_security = above p.some_security q.some_security i;
  security_known = at_most p.security_known q.security_known i;
  due_known = at_most p.due_known q.due_known i;
}

line_prop : (f : Figures) (l : Line) → IsProp (LineFits f l)
line_prop f l p q = λ i. record {
  known = known_prop f l p.known q.known i;
  quantity = at_most p.quantity q.quantity i;
  money = at_most p.money q.money i;
  order = at_most p.order q.order i;
  highest = at_most p.highest q.highest i;
  lowest = at_most p.lowest q.lowest i;
  price = at_most p.price q.price i;
  priced = λ e. above (p.priced e) (q.priced e) i;
  unpriced = λ e. equal (p.unpriced e) (q.unpriced e) i;
  plain = plain_prop p.plain q.plain i;
  difference = at_most p.difference q.difference i;
  rest = at_most p.rest q.rest i;
}
  where
    plain_prop : IsProp (l.price ≡ 0 → l.difference ≡ pos 0)
    plain_prop = hlevel props

member_prop : (r : Member) → IsProp (MemberFits r)
member_prop r p q = λ i. record {
  charges = at_most p.charges q.charges i;
  shares = at_most p.shares q.shares i;
  cash = at_most p.cash q.cash i;
  requirement = at_most p.requirement q.requirement i;
  owed = at_most p.owed q.owed i;
  late = at_most p.late q.late i;
}

bounds_prop : (f : Figures) → IsProp (Bounds f)
bounds_prop f p q = λ i. record {
  shape = shape_prop f p.shape q.shape i;
  lines = λ j l. line_prop f (line f.register j) (p.lines j l) (q.lines j l) i;
  members = λ m l. member_prop (member f m) (p.members m l) (q.members m l) i;
  prices = λ t. at_most (p.prices t) (q.prices t) i;
  weights = λ m l. at_most (p.weights m l) (q.weights m l) i;
  escrow = λ m t. at_most (p.escrow m t) (q.escrow m t) i;
}

-- So a ghost field may hold them as they are.
pub fit_prop : (f : Figures) → IsProp (Fit f)
fit_prop f p q = λ i. record { bounds = bounds_prop f p.bounds q.bounds i; fails = at_most p.fails q.fails i }

-- What says only that they hold gives them.
pub fit_out : (f : Figures) → ∥ Fit f ∥₁ → Fit f
fit_out f t = ∥∥₁_elim t (fit_prop f) (λ ok. ok)
