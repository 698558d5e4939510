use Rattle.std.proofs.Common.{◌+◌, ◌-◌, ◌*◌}
use Rattle.remit.proofs.by_threads.+files.Given as goal

abbrev pub decreases-write_group : goal.decreases-write_group
decreases-write_group g l = 3 * (l.group.end - l.group.start) + 2

abbrev pub decreases-write_files_in_front : goal.decreases-write_files_in_front
decreases-write_files_in_front g l = 3 * (l.group.end - l.group.start) + 1

abbrev pub decreases-write_files_in_front-write : goal.decreases-write_files_in_front-write
decreases-write_files_in_front-write g l = 3 * (l.in_front.end - l.in_front.start) + 3
