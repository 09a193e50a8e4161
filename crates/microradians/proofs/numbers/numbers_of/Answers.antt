-- `microradians::numbers::numbers_of` meets its contract: each constant is the group of its number by computation. Assumes nothing.
use mathlib.Core.Path.{◌≡◌, sym, ap}
use native.Mathlib.Omega.{arith}
use Rattle.polynomials.specs.Order.{below}
use Rattle.polynomials.specs.Sum.{listed}
use Rattle.microradians.specs.Groups.{fine_group}
use Rattle.microradians.proofs.numbers.numbers_of.Goals as goal

pub returns-in-0 : goal.returns-in-0
unfolding listed below
returns-in-0 c = sym (ap fine_group c.in-0.is)

pub returns-in-1 : goal.returns-in-1
unfolding listed below
returns-in-1 c = sym (ap fine_group c.in-1.is)

pub returns-in-2 : goal.returns-in-2
unfolding listed below
returns-in-2 c = sym (ap fine_group c.in-2.is)

pub returns-in-3 : goal.returns-in-3
unfolding listed below
returns-in-3 c = sym (ap fine_group c.in-3.is)

pub returns-in-4 : goal.returns-in-4
unfolding listed below
returns-in-4 c = sym (ap fine_group c.in-4.is)

pub returns-in-5 : goal.returns-in-5
unfolding listed below
returns-in-5 c = sym (ap fine_group c.in-5.is)

pub returns-in-6 : goal.returns-in-6
unfolding listed below
returns-in-6 c = sym (ap fine_group c.in-6.is)

pub returns-in-7 : goal.returns-in-7
unfolding listed below
returns-in-7 c = sym (ap fine_group c.in-7.is)

pub returns-in-8 : goal.returns-in-8
unfolding listed below
returns-in-8 c = sym (ap fine_group c.in-8.is)

pub returns-in-9 : goal.returns-in-9
unfolding listed below
returns-in-9 c = sym (ap fine_group c.in-9.is)

pub returns-in-10 : goal.returns-in-10
unfolding listed below
returns-in-10 c = sym (ap fine_group c.in-10.is)

pub returns-in-11 : goal.returns-in-11
unfolding listed below
returns-in-11 c = sym (ap fine_group c.in-11.is)

pub returns-in-12 : goal.returns-in-12
unfolding listed below
returns-in-12 c = sym (ap fine_group c.in-12.is)

pub returns-in-13 : goal.returns-in-13
unfolding listed below
returns-in-13 c = sym (ap fine_group c.in-13.is)

pub returns-in-14 : goal.returns-in-14
unfolding listed below
returns-in-14 c = sym (ap fine_group c.in-14.is)

pub returns-in-15 : goal.returns-in-15
unfolding listed below
returns-in-15 c = sym (ap fine_group c.in-15.is)

pub returns-in-16 : goal.returns-in-16
unfolding listed below
returns-in-16 c = sym (ap fine_group c.in-16.is)

pub returns-in-17 : goal.returns-in-17
unfolding listed below
returns-in-17 c = sym (ap fine_group c.in-17.is)

pub returns-in-18 : goal.returns-in-18
unfolding listed below
returns-in-18 c = sym (ap fine_group c.in-18.is)

pub returns-in-19 : goal.returns-in-19
unfolding listed below
returns-in-19 c = sym (ap fine_group c.in-19.is)

pub returns-in-20 : goal.returns-in-20
unfolding listed below
returns-in-20 c = sym (ap fine_group c.in-20.is)

pub returns-in-21 : goal.returns-in-21
unfolding listed below
returns-in-21 c = sym (ap fine_group c.in-21.is)

pub returns-in-22 : goal.returns-in-22
unfolding listed below
returns-in-22 c = sym (ap fine_group c.in-22.is)

pub returns-in_default : goal.returns-in_default
unfolding listed below
returns-in_default c =
    let e : c.args.group ≡ 23 = omega arith in
    sym (ap fine_group e)
