-- 01's starred case and the case of the holes: the definitions compute.
use mathlib.Core.Path.{refl}
use Rattle.fixed.specs.Up.{up, down, ups}
use Rattle.axis.specs.Axis.{rank, index, holds, insert, inserts}
use Rattle.corridors.specs.Grid.{covers, covered, filled, last, ends_at, add_cell, with_cell, runs, row_runs, all_runs}
use Rattle.corridors.specs.Merge.{implicit, crossed, has, swap_remove, take_out, yield, corridor, fold, row_corridors, corridors, directions}
use Rattle.corridors.specs.Cases.{downs, two_boxes, TwoBoxes, holes, Holes}

pub two_boxes-are : TwoBoxes
unfolding two_boxes implicit crossed ups up down rank index holds insert inserts downs covers covered filled last ends_at add_cell with_cell runs row_runs all_runs has swap_remove take_out yield corridor fold row_corridors corridors directions
two_boxes-are = record { xs = refl; ys = refl; ways = refl }

pub holes-are : Holes
unfolding holes implicit crossed ups up down rank index holds insert inserts downs covers covered filled last ends_at add_cell with_cell runs row_runs all_runs has swap_remove take_out yield corridor fold row_corridors corridors directions
holes-are = record { xs = refl; ys = refl; level = refl }
