-- Each factor is bounded, so the two products and their difference are what they are in whole numbers.
use Rattle.plan.proofs.Common.{held, held_fits, param, ◌+ʳ◌, ◌-ʳ◌, ◌*ʳ◌}
use Rattle.plan.proofs.pipes.imbalance.Goals as goal

pub overflow_mul-result : goal.overflow_mul-result
overflow_mul-result c = let p = c.requires in held_fits (param p.0 tt *ʳ held (param p.1 tt -ʳ param p.2 tt) tt) tt

pub overflow_mul-result-2 : goal.overflow_mul-result-2
overflow_mul-result-2 c = let p = c.requires in held_fits (param p.3 tt *ʳ held (param p.4 tt +ʳ param p.5 tt) tt) tt

pub overflow_sub-result-2 : goal.overflow_sub-result-2
overflow_sub-result-2 c =
    let p = c.requires in
    let taken = held (param p.0 tt *ʳ held (param p.1 tt -ʳ param p.2 tt) tt) tt in
    let told = held (param p.3 tt *ʳ held (param p.4 tt +ʳ param p.5 tt) tt) tt in
    held_fits (taken -ʳ told) tt

pub returns : goal.returns
returns c =
    let p = c.requires in
    let taken = held (param p.0 tt *ʳ held (param p.1 tt -ʳ param p.2 tt) tt) tt in
    let told = held (param p.3 tt *ʳ held (param p.4 tt +ʳ param p.5 tt) tt) tt in
    (held (taken -ʳ told) tt).val
