-- Worked schedules, computed from the definitions.
use Rattle.std.proofs.Common.{◌≡◌, [], ◌∷◌, ◌++◌, replicate, refl}
use Rattle.std.specs.Prelude.{codes}
use Rattle.std.specs.Fmt.{digits}
use Rattle.rc_instance.specs.Project.{Project, capacity, demand, duration, precedes, successors_of}
use Rattle.rc_instance.specs.Parts.{made}
use Rattle.activity_net.specs.Network.{predecessors_of}
use Rattle.time_windows.specs.Windows.{critical_of, earliest_of, earliest_within, tail_of, tail_within}
use Rattle.time_windows.specs.CapacityBound.{bound_by, capacity_bound_of, is_enough, top_capacity, work}
use Rattle.gantt_table.specs.Windows.{window_text, window_row}
use Rattle.gantt_table.specs.Table.{table_text, table_row}
use Rattle.gantt_table.specs.Csv.{csv_text, csv_row}
use Rattle.gantt_table.specs.Chart.{chart_text, chart_row, bar, busy, idle}

-- six activities, one resource of capacity 2
six : Project
six = made (2 ∷ []) (0 ∷ 3 ∷ 2 ∷ 2 ∷ 1 ∷ 0 ∷ []) (0 ∷ 2 ∷ 1 ∷ 1 ∷ 1 ∷ 0 ∷ [])
    ((2 ∷ 3 ∷ 4 ∷ []) ∷ (5 ∷ []) ∷ (6 ∷ []) ∷ (6 ∷ []) ∷ (6 ∷ []) ∷ [] ∷ [])

six_table : table_text six (0 ∷ 0 ∷ 3 ∷ 3 ∷ 5 ∷ 6 ∷ [])
    ≡ codes "activity   start  finish\n" ++ codes "       1       0       0\n"
    ++ codes "       2       0       3\n" ++ codes "       3       3       5\n"
    ++ codes "       4       3       5\n" ++ codes "       5       5       6\n"
    ++ codes "       6       6       6\n" ++ codes "makespan 6\n"
unfolding six made duration table_text table_row digits
six_table = refl

six_chart : chart_text six (0 ∷ 0 ∷ 3 ∷ 3 ∷ 5 ∷ 6 ∷ [])
    ≡ codes "column 1\n" ++ codes "   1 ......\n" ++ codes "   2 ###...\n"
    ++ codes "   3 ...##.\n" ++ codes "   4 ...##.\n" ++ codes "   5 .....#\n"
    ++ codes "   6 ......\n" ++ codes "makespan 6\n"
unfolding six made duration chart_text chart_row bar digits
six_chart = refl

-- one activity that takes no time: a makespan of 0, and no column
still_chart : chart_text (made [] (0 ∷ []) [] ([] ∷ [])) (0 ∷ [])
    ≡ codes "column 1\n" ++ codes "   1 \n" ++ codes "makespan 0\n"
unfolding made duration chart_text chart_row bar digits
still_chart = refl

-- a makespan of 101: 51 columns of 2 periods, of which the last has but one
long_chart : chart_text (made [] (1 ∷ 100 ∷ []) [] ([] ∷ [] ∷ [])) (100 ∷ 1 ∷ [])
    ≡ codes "column 2\n" ++ codes "   1 " ++ replicate 50 idle ++ codes "#\n"
    ++ codes "   2 " ++ replicate 51 busy ++ codes "\n" ++ codes "makespan 101\n"
unfolding made duration chart_text chart_row bar digits
long_chart = refl

six_csv : csv_text six (0 ∷ 0 ∷ 3 ∷ 3 ∷ 5 ∷ 6 ∷ [])
    ≡ codes "activity,start,finish\n" ++ codes "1,0,0\n" ++ codes "2,0,3\n" ++ codes "3,3,5\n"
    ++ codes "4,3,5\n" ++ codes "5,5,6\n" ++ codes "6,6,6\n"
unfolding six made duration csv_text csv_row digits
six_csv = refl

six_windows : window_text six
    ≡ codes "activity  earliest    latest\n" ++ codes "       1         0         0\n"
    ++ codes "       2         0         0\n" ++ codes "       3         0         2\n"
    ++ codes "       4         0         2\n" ++ codes "       5         3         3\n"
    ++ codes "       6         4         4\n" ++ codes "critical 4\n" ++ codes "capacity 6\n"
unfolding six made duration successors_of precedes window_text window_row earliest_of earliest_within tail_of tail_within critical_of predecessors_of capacity_bound_of bound_by top_capacity is_enough work demand capacity digits
six_windows = refl
