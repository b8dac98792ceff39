-- The number and the layer of each refusal.
use Rattle.std.specs.Prelude.{ℕ}
use Rattle.landmark.specs.declared.refusal.Layer.{Layer}
use Rattle.landmark.specs.declared.refusal.Layer.TheVariants as L
use Rattle.landmark.specs.declared.refusal.Refusal.{Refusal}
use Rattle.landmark.specs.declared.refusal.Refusal.TheVariants.{CutRecord, UnknownRecord, WrongBodySize, BadValue, Misplaced, GapTooWide, TooMany, NoSpace, TooManyRunBytes, TableTooSmall, EntryDiffers, OrderOut, BadLength, OtherWords, Idle, WrongPlace, Overrun, NoSuchLandmark, NotAnEntry, BytesMissing, Barred, NoEnd, EndAtLength, OtherOrder}

-- the number by which a refusal is known outside
abbrev pub number_of : Refusal → ℕ
number_of CutRecord = 1
number_of UnknownRecord = 2
number_of WrongBodySize = 3
number_of BadValue = 4
number_of Misplaced = 5
number_of GapTooWide = 6
number_of TooMany = 7
number_of NoSpace = 8
number_of TooManyRunBytes = 9
number_of TableTooSmall = 10
number_of EntryDiffers = 11
number_of OrderOut = 12
number_of BadLength = 13
number_of OtherWords = 14
number_of Idle = 15
number_of WrongPlace = 16
number_of Overrun = 17
number_of NoSuchLandmark = 18
number_of NotAnEntry = 19
number_of BytesMissing = 20
number_of Barred = 21
number_of NoEnd = 22
number_of EndAtLength = 23
number_of OtherOrder = 24

-- lists come first, then tables, then scans and their orders
abbrev pub layer_of : Refusal → Layer
layer_of CutRecord = L.List
layer_of UnknownRecord = L.List
layer_of WrongBodySize = L.List
layer_of BadValue = L.List
layer_of Misplaced = L.List
layer_of GapTooWide = L.List
layer_of TooMany = L.List
layer_of NoSpace = L.List
layer_of TooManyRunBytes = L.Table
layer_of TableTooSmall = L.Table
layer_of EntryDiffers = L.Table
layer_of OrderOut = L.Scan
layer_of BadLength = L.Scan
layer_of OtherWords = L.Scan
layer_of Idle = L.Scan
layer_of WrongPlace = L.Scan
layer_of Overrun = L.Scan
layer_of NoSuchLandmark = L.Scan
layer_of NotAnEntry = L.Scan
layer_of BytesMissing = L.Scan
layer_of Barred = L.Scan
layer_of NoEnd = L.Scan
layer_of EndAtLength = L.Scan
layer_of OtherOrder = L.Scan
