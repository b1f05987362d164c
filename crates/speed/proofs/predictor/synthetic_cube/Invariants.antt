use Rattle.cube_core.specs.Image.{index_in}
use Rattle.speed.proofs.Scene.{IsBegun}
use Rattle.speed.proofs.predictor.synthetic_cube.Given as goal

abbrev pub invariant-loop-x : goal.invariant-loop-x
invariant-loop-x l = IsBegun l.shape l.kind (index_in l.shape.columns l.shape.rows l.z l.y l.x) l.cube l.generator

abbrev pub invariant-loop-y : goal.invariant-loop-y
invariant-loop-y l = IsBegun l.shape l.kind (index_in l.shape.columns l.shape.rows l.z l.y 0) l.cube l.generator

abbrev pub invariant-loop-z : goal.invariant-loop-z
invariant-loop-z l = IsBegun l.shape l.kind (index_in l.shape.columns l.shape.rows l.z 0 0) l.cube l.generator
